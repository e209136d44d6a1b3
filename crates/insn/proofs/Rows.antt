-- What a slot follows whose fields break no rule, and how the faults of two slots join.
use Rattle.std.proofs.Common.{◌≡◌, ℕ, ◌≤◌, Bool, true, false, List, [], ◌∷◌, Option, Some, None, refl, sym, ap, ◌∙◌, arith}
use Rattle.std.specs.Prelude.{ℤ, pos, ◌||◌, nat_lt, is_none, find, if◌then◌else◌}
use Rattle.std.specs.Option.{option_or}
use Rattle.std.specs.Ordering.{int_eq}
use Rattle.std.specs.Cmp.{signed_Decides}
use Rattle.std.specs.List.{list_any}
use Rattle.std.proofs.lemmas.Bool.Decides.{nat_tests}
use Rattle.std.proofs.lemmas.List.Folds.{find-append}
use Rattle.insn.specs.declared.instruction.Fields.{Fields}
use Rattle.insn.specs.declared.decoding.DecodeFault.{DecodeFault}
use Rattle.insn.specs.declared.decoding.DecodeFault.TheVariants.{UnknownOpcode, RegisterAbove10, UndefinedValue, UnusedFieldSet, CutOff, BadSecondHalf}
use Rattle.opcodes.specs.declared.Use.{Use}
use Rattle.opcodes.specs.declared.Use.TheVariants.{Unused}
use Rattle.opcodes.specs.declared.Uses.{Uses}
use Rattle.opcodes.specs.Table.{uses_of, values_of}
use Rattle.std.proofs.lemmas.Bool.{true≢false, not-false}
use Rattle.insn.specs.Refusal.{is_none_of, is_undefined, is_set_though_unused, some_field, is_wide, is_bad_half, first_fault, first_slot_faults, second_slot_faults, breaks}

-- ---- what a row asks

abbrev pub FitsValues : Option (List ℤ) → ℤ → Type 0
FitsValues (Some values) z = list_any (int_eq z) values ≡ true
FitsValues None z = Unit {0}

abbrev pub FitsUse : Use → ℤ → Type 0
FitsUse Unused z = z ≡ pos 0
FitsUse u z = FitsValues (values_of u) z

pub or_left : (a b : Bool) → a || b ≡ false → a ≡ false
or_left true b e = e
or_left false b e = refl

pub or_right : (a b : Bool) → a || b ≡ false → b ≡ false
or_right true b e = cc
or_right false b e = e

fits_values : (o : Option (List ℤ)) (z : ℤ) → is_none_of o z ≡ false → FitsValues o z
fits_values (Some values) z a = not-false _ a
fits_values None z a = tt

fits_use : (u : Use) (z : ℤ) → is_undefined u z ≡ false → is_set_though_unused u z ≡ false → FitsUse u z
fits_use Unused z a b = (signed_Decides z (pos 0)).0 (not-false _ b)
fits_use u z a b = fits_values (values_of u) z a

abbrev pub FollowsUses : Uses → Fields → Type 0
FollowsUses u f = FitsUse u.dst (pos f.dst) × FitsUse u.src (pos f.src) × FitsUse u.offset f.offset × FitsUse u.imm f.imm

follows : (r : Uses) (f : Fields) → some_field is_undefined (Some r) f ≡ false → some_field is_set_though_unused (Some r) f ≡ false → FollowsUses r f
follows r f u s =
    let ud = is_undefined r.dst (pos f.dst) in
    let us = is_undefined r.src (pos f.src) in
    let uo = is_undefined r.offset f.offset in
    let ui = is_undefined r.imm f.imm in
    let zd = is_set_though_unused r.dst (pos f.dst) in
    let zs = is_set_though_unused r.src (pos f.src) in
    let zo = is_set_though_unused r.offset f.offset in
    let zi = is_set_though_unused r.imm f.imm in
    let u2 = or_left (ud || us || uo) ui u in
    let z2 = or_left (zd || zs || zo) zi s in
    let u3 = or_left (ud || us) uo u2 in
    let z3 = or_left (zd || zs) zo z2 in (
      fits_use r.dst (pos f.dst) (or_left ud us u3) (or_left zd zs z3),
      fits_use r.src (pos f.src) (or_right ud us u3) (or_right zd zs z3),
      fits_use r.offset f.offset (or_right (ud || us) uo u2) (or_right (zd || zs) zo z2),
      fits_use r.imm f.imm (or_right (ud || us || uo) ui u) (or_right (zd || zs || zo) zi s),
    )

find_none : {A : Type 0} (test : A → Bool) (x : A) (xs : List A) → find test (x ∷ xs) ≡ None → (test x ≡ false) × (find test xs ≡ None)
find_none test x xs e = by (test x) refl
  where
    by : (b : Bool) → test x ≡ b → (test x ≡ false) × (find test xs ≡ None)
    by true h = let g = rw h at e in cc
    by false h = let g = rw h at e in (h, g)

not_above : (n : ℕ) → nat_lt 10 n ≡ false → n ≤ 10
not_above n h = grind (arith, nat_tests)

-- the first reason that stands in the slot itself
abbrev pub own_fault : Fields → Option DecodeFault
own_fault f = find (λ d. breaks d (f ∷ [])) first_slot_faults

-- a slot without such a reason
pub record Clean (f : Fields) : Type 0 where
  pub uses : Uses
  pub known : uses_of f.opcode ≡ Some uses
  pub dst : f.dst ≤ 10
  pub src : f.src ≤ 10
  pub follows_uses : FollowsUses uses f

pub is_clean : (f : Fields) → own_fault f ≡ None → Clean f
is_clean f e = by (uses_of f.opcode) refl
  where
    a : (is_none (uses_of f.opcode) ≡ false) × (find (λ d. breaks d (f ∷ [])) (RegisterAbove10 ∷ UndefinedValue ∷ UnusedFieldSet ∷ []) ≡ None)
    a = find_none (λ d. breaks d (f ∷ [])) UnknownOpcode (RegisterAbove10 ∷ UndefinedValue ∷ UnusedFieldSet ∷ []) e

    b : (nat_lt 10 f.dst || nat_lt 10 f.src ≡ false) × (find (λ d. breaks d (f ∷ [])) (UndefinedValue ∷ UnusedFieldSet ∷ []) ≡ None)
    b = find_none (λ d. breaks d (f ∷ [])) RegisterAbove10 (UndefinedValue ∷ UnusedFieldSet ∷ []) a.1

    c : (some_field is_undefined (uses_of f.opcode) f ≡ false) × (find (λ d. breaks d (f ∷ [])) (UnusedFieldSet ∷ []) ≡ None)
    c = find_none (λ d. breaks d (f ∷ [])) UndefinedValue (UnusedFieldSet ∷ []) b.1

    d : (some_field is_set_though_unused (uses_of f.opcode) f ≡ false) × (find (λ d. breaks d (f ∷ [])) [] ≡ None)
    d = find_none (λ d. breaks d (f ∷ [])) UnusedFieldSet [] c.1

    by : (o : Option Uses) → uses_of f.opcode ≡ o → Clean f
    by None h = absurd (true≢false (sym (ap is_none h) ∙ a.0))
    by (Some u) h = record {
      uses = u;
      known = h;
      dst = not_above f.dst (or_left (nat_lt 10 f.dst) (nat_lt 10 f.src) b.0);
      src = not_above f.src (or_right (nat_lt 10 f.dst) (nat_lt 10 f.src) b.0);
      follows_uses = follows u f (sym (ap (λ o. some_field is_undefined o f) h) ∙ c.0) (sym (ap (λ o. some_field is_set_though_unused o f) h) ∙ d.0);
    }

-- ---- the faults of a slot, and of the one behind it

abbrev behind : Fields → List Fields → Option DecodeFault
behind f rest = find (λ d. breaks d (f ∷ rest)) second_slot_faults

split : (f : Fields) (rest : List Fields) → first_fault (f ∷ rest) ≡ option_or (own_fault f) (behind f rest)
split f rest = find-append (λ d. breaks d (f ∷ rest)) first_slot_faults second_slot_faults

behind_narrow : (f : Fields) (rest : List Fields) → is_wide f ≡ false → behind f rest ≡ None
behind_narrow f [] w = rw w refl
behind_narrow f (g ∷ rest) w = rw w refl

behind_cut : (f : Fields) → is_wide f ≡ true → behind f [] ≡ Some CutOff
behind_cut f w = rw w refl

behind_half : (f g : Fields) (rest : List Fields) (b : Bool) → is_wide f ≡ true → is_bad_half f g ≡ b → behind f (g ∷ rest) ≡ (if b then Some BadSecondHalf else None)
behind_half f g rest true w h = rw (w, h) refl
behind_half f g rest false w h = rw (w, h) refl

pub fault_first : (f : Fields) (rest : List Fields) (why : DecodeFault) → own_fault f ≡ Some why → first_fault (f ∷ rest) ≡ Some why
fault_first f rest why e = split f rest ∙ ap (λ o. option_or o (behind f rest)) e

pub fault_narrow : (f : Fields) (rest : List Fields) → own_fault f ≡ None → is_wide f ≡ false → first_fault (f ∷ rest) ≡ None
fault_narrow f rest e w = split f rest ∙ ap (λ o. option_or o (behind f rest)) e ∙ behind_narrow f rest w

pub fault_cut : (f : Fields) → own_fault f ≡ None → is_wide f ≡ true → first_fault (f ∷ []) ≡ Some CutOff
fault_cut f e w = split f [] ∙ ap (λ o. option_or o (behind f [])) e ∙ behind_cut f w

pub fault_half : (f g : Fields) (rest : List Fields) → own_fault f ≡ None → is_wide f ≡ true → is_bad_half f g ≡ true → first_fault (f ∷ g ∷ rest) ≡ Some BadSecondHalf
fault_half f g rest e w h = split f (g ∷ rest) ∙ ap (λ o. option_or o (behind f (g ∷ rest))) e ∙ behind_half f g rest true w h

pub fault_wide : (f g : Fields) (rest : List Fields) → own_fault f ≡ None → is_wide f ≡ true → is_bad_half f g ≡ false → first_fault (f ∷ g ∷ rest) ≡ None
fault_wide f g rest e w h = split f (g ∷ rest) ∙ ap (λ o. option_or o (behind f (g ∷ rest))) e ∙ behind_half f g rest false w h

pub no_own : (f : Fields) (rest : List Fields) → first_fault (f ∷ rest) ≡ None → own_fault f ≡ None
no_own f rest e = by (own_fault f) refl
  where
    by : (o : Option DecodeFault) → own_fault f ≡ o → own_fault f ≡ None
    by None h = h
    by (Some why) h = let g = sym (fault_first f rest why h) ∙ e in cc
