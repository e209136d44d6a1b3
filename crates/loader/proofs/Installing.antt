-- A program that is installed behind the others.
use Rattle.std.proofs.Common.{◌≡◌, ℕ, zero, suc, ◌+◌, ◌*◌, ◌<◌, ◌≤◌, List, [], ◌∷◌, ◌++◌, length, take, get_or, true, Option, Some, None, Result, Ok, Err, refl, sym, ap, ap₂, ◌∙◌, arith, subst}
use Rattle.std.proofs.Math.Seq.{take-suc}
use Rattle.std.proofs.lemmas.Bool.{le-leb, leb-true, and_parts}
use Rattle.std.specs.Prelude.{◌↔◌, ◌&&◌, nat_le, replicate, slice_set}
use Rattle.std.specs.List.{All, AllByRecursion}
use Rattle.std.proofs.lemmas.List.{length-append, length-map, length-set, length-take-le, map-append, take_more_set}
use Rattle.std.proofs.lemmas.List.Elements.{All-append, All-cons, All-nil}
use Rattle.insn.specs.declared.instruction.Form.{Form}
use Rattle.insn.specs.declared.decoding.DecodeRefusal.{DecodeRefusal}
use Rattle.insn.specs.Decoded.{decoded}
use Rattle.insn.specs.Encoding.{program_slots, HasEncoding}
use Rattle.insn.specs.Layout.{size}
use Rattle.insn.specs.Refusal.{AreBytes, Decodes}
use Rattle.insn.proofs.Export.{size_is, slot_bytes_length, read_is_spelled}
use Rattle.maps.specs.declared.shapes.Shape.{Shape}
use Rattle.maps.specs.Shapes.{AreShapesSupported}
use Rattle.verifier.specs.declared.refusal.Mode.{Mode}
use Rattle.verifier.specs.declared.refusal.Refused.{Refused}
use Rattle.verifier.specs.Signature.{signature}
use Rattle.verifier.specs.Typing.{IsTypable}
use Rattle.verifier.specs.Verdict.{verdict}
use Rattle.verifier.specs.Accepted.{AcceptedView, Checked, checked, checked_in, IsAccepted}
use Rattle.verifier.proofs.Export.{accepts}
use Rattle.loader.specs.declared.installed.TheConstants.{MOST_LONG, MOST_SPARE}
use Rattle.loader.specs.Installed.{AreRooms, InstalledView, IsInstalled, IsShort, accepted_program, all_checked, are_short, first_rooms, installed_program, is_short, most_argument, most_bytes, unless_unsafe, with_installed}

-- a program is spelled by eight bytes a slot
pub few_slots : (bytes : List ℕ) (p : List Form) (most : ℕ) → Decodes bytes p → length bytes ≤ most → 8 * size p ≤ most
few_slots bytes p most d few =
    let count : length bytes ≡ 8 * length (program_slots p) = ap length d.spelled ∙ slot_bytes_length (program_slots p) in
    omega (arith, count, size_is p, few)

-- what is known of a program that was read and found typable
pub short_and_accepted : (p : List Form) (shapes : List Shape) (n : ℕ) (mode : Mode) (long : ℕ) (c : Checked) → AllByRecursion HasEncoding p → 8 * size p ≤ most_bytes long → AreShapesSupported shapes → n ≤ most_argument long → long ≤ MOST_LONG
    → IsTypable p (signature shapes n mode) → c ≡ checked p shapes n mode → (c.shapes ≡ shapes) × IsAccepted c × IsShort long c
short_and_accepted p shapes n mode long c each few ok argument limit typable same = (
  ap (λ (x : Checked). x.shapes) same,
  subst IsAccepted (sym same) (record { typable = typable; instructions = each; shapes = ok; argument = omega (arith, argument, limit) }),
  subst (IsShort long) (sym same) (record { slots = few; argument = argument }),
)

-- what holds of each of some and of one more holds of each of all
and_one : (P : Checked → Type 0) (programs : List Checked) (c : Checked) → All P programs → P c → All P (programs ++ c ∷ [])
and_one P programs c all one = All-append P programs (c ∷ []) all (All-cons P c [] one (All-nil P))

-- what is checked of the first rooms, where the next one got a program
pub next_checked : (rooms : List AcceptedView) (count : ℕ) (a : AcceptedView) → count < length rooms → all_checked (take (count + 1) (slice_set rooms count a)) ≡ all_checked (take count rooms) ++ checked_in a ∷ []
next_checked rooms count a free = ap all_checked (take_more_set rooms count a free) ∙ map-append checked_in (take count rooms) (a ∷ [])

-- there is a next room where there are fewer programs than places
pub next_free : (shapes : List Shape) (long : ℕ) (rooms : List AcceptedView) (count : ℕ) → count ≤ length rooms → length (first_rooms shapes long rooms count).programs < length rooms → count < length rooms
next_free shapes long rooms count within free = omega (arith, free, length-map (take count rooms) checked_in, length-take-le count rooms within)

-- a program that is put into the next room stands behind the others
pub next_room : (shapes : List Shape) (long : ℕ) (rooms : List AcceptedView) (count : ℕ) (a : AcceptedView) → IsInstalled (first_rooms shapes long rooms count) → count < length rooms → a.shapes ≡ shapes → IsAccepted (checked_in a) → IsShort long (checked_in a)
    → IsInstalled (first_rooms shapes long (slice_set rooms count a) (count + 1))
next_room shapes long rooms count a h free same accepted short =
    let c : Checked = checked_in a in
    let old : List Checked = all_checked (take count rooms) in
    let places : length (slice_set rooms count a) ≡ length rooms = length-set rooms count a in
    let programs = next_checked rooms count a free in
    record {
      shapes = h.shapes;
      accepted = subst (All (λ (x : Checked). x.shapes ≡ shapes)) (sym programs) (and_one (λ x. x.shapes ≡ shapes) old c h.accepted same);
      checked = subst (All IsAccepted) (sym programs) (and_one IsAccepted old c h.checked accepted);
      short = subst (All (IsShort long)) (sym programs) (and_one (IsShort long) old c h.short short);
      few =
          let first : List AcceptedView = take (count + 1) (slice_set rooms count a) in
          omega (arith, places, free, length-map first checked_in, length-take-le (count + 1) (slice_set rooms count a) (omega (arith, places, free)));
      limit = omega (arith, places, h.limit);
      long_limit = h.long_limit;
    }

head_same : (slots : ℕ) (x : AcceptedView) (rooms : List AcceptedView) → AreRooms slots (x ∷ rooms) → x.room ≡ slots
head_same slots x rooms all = cc

tail_same : (slots : ℕ) (x : AcceptedView) (rooms : List AcceptedView) → AreRooms slots (x ∷ rooms) → AreRooms slots rooms
tail_same slots x rooms all = cc

-- rooms of so many slots are rooms of so many, where one of them got another program
pub rooms_stay : (slots : ℕ) (rooms : List AcceptedView) (k : ℕ) (a : AcceptedView) → AreRooms slots rooms → a.room ≡ slots → AreRooms slots (slice_set rooms k a)
rooms_stay slots [] k a all same = all
rooms_stay slots (x ∷ rooms) zero a all same = ap₂ (λ n ns. n ∷ ns) same (tail_same slots x rooms all)
rooms_stay slots (x ∷ rooms) (suc k) a all same = ap₂ (λ n ns. n ∷ ns) (head_same slots x rooms all) (rooms_stay slots rooms k a (tail_same slots x rooms all) same)

-- each of them has room for so many
pub room_there : (slots : ℕ) (rooms : List AcceptedView) (k : ℕ) (a : AcceptedView) → AreRooms slots rooms → k < length rooms → a ≡ get_or rooms k a → a.room ≡ slots
room_there slots [] k a all below there = absurd (omega (arith, below))
room_there slots (x ∷ rooms) zero a all below there = subst (λ (y : AcceptedView). y.room ≡ slots) (sym there) (head_same slots x rooms all)
room_there slots (x ∷ rooms) (suc k) a all below there = room_there slots rooms k a (tail_same slots x rooms all) (omega (arith, below)) there

-- rooms that are all the same
pub same_rooms : (slots n : ℕ) (a : AcceptedView) → a.room ≡ slots → AreRooms slots (replicate n a)
same_rooms slots zero a same = refl
same_rooms slots (suc n) a same = ap₂ (λ m ns. m ∷ ns) same (same_rooms slots n a same)

-- ---- rooms

pub first_count : (rooms : List AcceptedView) (count : ℕ) → count ≤ length rooms → length (all_checked (take count rooms)) ≡ count
first_count rooms count within = length-map (take count rooms) checked_in ∙ length-take-le count rooms within

pub none_first : (rooms : List AcceptedView) → all_checked (take 0 rooms) ≡ []
none_first [] = refl
none_first (x ∷ rooms) = refl

-- a program of the first rooms is for their maps
pub fits_there : (shapes : List Shape) (rooms : List AcceptedView) (count k : ℕ) (a : AcceptedView) → All (λ (x : Checked). x.shapes ≡ shapes) (all_checked (take count rooms)) → count ≤ length rooms → k < count → a ≡ get_or rooms k a → a.shapes ≡ shapes
fits_there shapes [] count k a all within below there = absurd (omega (arith, within, below))
fits_there shapes (x ∷ rooms) zero k a all within below there = absurd (omega (arith, below))
fits_there shapes (x ∷ rooms) (suc n) zero a all within below there = subst (λ (y : AcceptedView). y.shapes ≡ shapes) (sym there) (all 0 (checked_in x) (omega arith))
fits_there shapes (x ∷ rooms) (suc n) (suc k) a all within below there = fits_there shapes rooms n k a (λ j d lt. all (suc j) d (omega (arith, lt))) (omega (arith, within)) (omega (arith, below)) there

-- one of some that are short is short
pub short_there : (long : ℕ) (xs : List AcceptedView) (k : ℕ) (a : AcceptedView) → All (IsShort long) (all_checked xs) → k < length xs → a ≡ get_or xs k a → IsShort long (checked_in a)
short_there long [] k a all below there = absurd (omega (arith, below))
short_there long (x ∷ xs) zero a all below there = subst (λ (y : AcceptedView). IsShort long (checked_in y)) (sym there) (all 0 (checked_in x) (omega arith))
short_there long (x ∷ xs) (suc k) a all below there = short_there long xs k a (λ j d lt. all (suc j) d (omega (arith, lt))) (omega (arith, below)) there

-- so many rooms hold these programs, where one more of them got its own
pub one_copied : (from rooms : List AcceptedView) (k : ℕ) (a new : AcceptedView) → k < length from → k < length rooms → a ≡ get_or from k a → checked_in new ≡ checked_in a → all_checked (take k rooms) ≡ all_checked (take k from)
    → all_checked (take (k + 1) (slice_set rooms k new)) ≡ all_checked (take (k + 1) from)
one_copied from rooms k a new inside free there same so_far =
    let next : k + 1 ≡ suc k = omega arith in
    let more : take (k + 1) from ≡ take k from ++ a ∷ [] = ap (λ n. take n from) next ∙ take-suc from k a inside ∙ ap (λ (x : AcceptedView). take k from ++ x ∷ []) (sym there) in
    next_checked rooms k new free ∙ ap₂ (λ (xs : List Checked) (x : Checked). xs ++ x ∷ []) so_far same ∙ sym (ap all_checked more ∙ map-append checked_in (take k from) (a ∷ []))

-- the first rooms, where they were copied from a list
pub from_first : (from given rooms : List AcceptedView) (count : ℕ) → given ≡ from → count ≤ length from → all_checked (take (length (take count given)) rooms) ≡ all_checked (take count given) → all_checked (take count rooms) ≡ all_checked (take count from)
from_first from given rooms count same within copied =
    let n : length (take count given) ≡ count = length-take-le count given (omega (arith, within, ap length same)) in
    sym (ap (λ k. all_checked (take k rooms)) n) ∙ copied ∙ ap (λ xs. all_checked (take count xs)) same

-- rooms that hold the same programs, with room for longer or shorter ones
pub copied_rooms : (shapes : List Shape) (old long : ℕ) (from rooms : List AcceptedView) (count : ℕ) → IsInstalled (first_rooms shapes old from count) → all_checked (take count rooms) ≡ all_checked (take count from) → All (IsShort long) (all_checked (take count from)) → count ≤ length rooms → length rooms ≤ MOST_SPARE → long ≤ MOST_LONG
    → IsInstalled (first_rooms shapes long rooms count)
copied_rooms shapes old long from rooms count h same short within few limit = record {
  shapes = h.shapes;
  accepted = subst (All (λ (x : Checked). x.shapes ≡ shapes)) (sym same) h.accepted;
  checked = subst (All IsAccepted) (sym same) h.checked;
  short = subst (All (IsShort long)) (sym same) short;
  few = omega (arith, within, first_count rooms count within);
  limit = few;
  long_limit = limit;
}

-- rooms that hold none
pub no_rooms : (shapes : List Shape) (long : ℕ) (rooms : List AcceptedView) → AreShapesSupported shapes → length rooms ≤ MOST_SPARE → long ≤ MOST_LONG → IsInstalled (first_rooms shapes long rooms 0)
no_rooms shapes long rooms ok few limit =
    let none = none_first rooms in
    record {
      shapes = ok;
      accepted = subst (All (λ (x : Checked). x.shapes ≡ shapes)) (sym none) (All-nil (λ (x : Checked). x.shapes ≡ shapes));
      checked = subst (All IsAccepted) (sym none) (All-nil IsAccepted);
      short = subst (All (IsShort long)) (sym none) (All-nil (IsShort long));
      few = omega (arith, ap length none);
      limit = few;
      long_limit = limit;
    }

-- the test is what it tests
pub short_iff : (long : ℕ) (rooms : List AcceptedView) → (are_short long rooms ≡ true) ↔ All (IsShort long) (all_checked rooms)
short_iff long rooms = (holds rooms, passes rooms)
  where
    one : (c : Checked) → is_short long c ≡ true → IsShort long c
    one c e = let both = and_parts (nat_le (8 * size c.program) (most_bytes long)) (nat_le c.arg_len (most_argument long)) e in
        record { slots = leb-true (8 * size c.program) (most_bytes long) both.0; argument = leb-true c.arg_len (most_argument long) both.1 }

    tested : (c : Checked) → IsShort long c → is_short long c ≡ true
    tested c h = ap₂ (λ a b. a && b) (le-leb (8 * size c.program) (most_bytes long) h.slots) (le-leb c.arg_len (most_argument long) h.argument)

    holds : (xs : List AcceptedView) → are_short long xs ≡ true → All (IsShort long) (all_checked xs)
    holds [] e = All-nil (IsShort long)
    holds (x ∷ xs) e =
        let both = and_parts (is_short long (checked_in x)) (are_short long xs) e in
        All-cons (IsShort long) (checked_in x) (all_checked xs) (one (checked_in x) both.0) (holds xs both.1)

    passes : (xs : List AcceptedView) → All (IsShort long) (all_checked xs) → are_short long xs ≡ true
    passes [] all = refl
    passes (x ∷ xs) all = ap₂ (λ a b. a && b) (tested (checked_in x) (all 0 (checked_in x) (omega arith))) (passes xs (λ j d lt. all (suc j) d (omega (arith, lt))))

-- ---- what bytes are installed as

-- the bytes were read as a program, and no rule refuses it
pub record IsRead (shapes : List Shape) (mode : Mode) (n : ℕ) (bytes : List ℕ) (c : Checked) : Type 0 where
  pub program : List Form
  pub read : decoded bytes ≡ Ok program
  pub passed : verdict program (signature shapes n mode) ≡ None
  pub same : c ≡ checked program shapes n mode

not_unsafe : (c d : Checked) (o : Option Refused) → unless_unsafe c o ≡ Ok d → (c ≡ d) × (o ≡ None)
not_unsafe c d None e = (cc, refl)
not_unsafe c d (Some why) e = absurd cc

read_as : (shapes : List Shape) (mode : Mode) (n : ℕ) (bytes : List ℕ) (c : Checked) (r : Result (List Form) DecodeRefusal) → decoded bytes ≡ r → accepted_program shapes mode n r ≡ Ok c → IsRead shapes mode n bytes c
read_as shapes mode n bytes c (Ok p) read e =
    let known = not_unsafe (checked p shapes n mode) c (verdict p (signature shapes n mode)) e in
    record { program = p; read = read; passed = known.1; same = sym known.0 }
read_as shapes mode n bytes c (Err why) read e = absurd cc

pub installed_reads : (shapes : List Shape) (mode : Mode) (n : ℕ) (bytes : List ℕ) (c : Checked) → installed_program shapes mode n bytes ≡ Ok c → IsRead shapes mode n bytes c
installed_reads shapes mode n bytes c e = read_as shapes mode n bytes c (decoded bytes) refl e

-- and so it is accepted, and short
pub installed_is_accepted : (shapes : List Shape) (mode : Mode) (n : ℕ) (long : ℕ) (bytes : List ℕ) (c : Checked) → AreShapesSupported shapes → n ≤ most_argument long → long ≤ MOST_LONG → AreBytes bytes → length bytes ≤ most_bytes long
    → installed_program shapes mode n bytes ≡ Ok c → (c.shapes ≡ shapes) × IsAccepted c × IsShort long c
installed_is_accepted shapes mode n long bytes c ok argument limit are few e =
    let r = installed_reads shapes mode n bytes c e in
    let spelled = read_is_spelled bytes r.program are r.read in
    short_and_accepted r.program shapes n mode long c spelled.each (few_slots bytes r.program (most_bytes long) spelled few) ok argument limit (accepts r.program (signature shapes n mode) r.passed) r.same

-- one more behind the others
pub one_more_installed : (v : InstalledView) (c : Checked) → IsInstalled v → length v.programs < v.places → c.shapes ≡ v.shapes → IsAccepted c → IsShort v.long c → IsInstalled (with_installed v c)
one_more_installed v c h free same accepted short = record {
  shapes = h.shapes;
  accepted = and_one (λ x. x.shapes ≡ v.shapes) v.programs c h.accepted same;
  checked = and_one IsAccepted v.programs c h.checked accepted;
  short = and_one (IsShort v.long) v.programs c h.short short;
  few = omega (arith, free, length-append v.programs (c ∷ []));
  limit = h.limit;
  long_limit = h.long_limit;
}
