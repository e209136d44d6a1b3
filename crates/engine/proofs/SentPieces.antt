-- A text that is written piece by piece: what was written so far, and what is left.
use Rattle.std.proofs.Common.{◌≡◌, inl, inr, ℕ, zero, suc, List, [], ◌∷◌, ◌++◌, take, Option, Some, None, refl, sym, ap, ◌∙◌, subst, append_assoc, append-nil}
use Rattle.std.specs.Io.KnownBytes.{Appends}
use Rattle.engine.specs.declared.replies.Status.{Status}
use Rattle.engine.specs.Report.{Sends}
use Rattle.engine.specs.Transfer.{AppendsBeginning}

-- all but what is left was written
abbrev pub Sent : Option (List ℕ) → Option (List ℕ) → List ℕ → List ℕ → Type 0
Sent old now all left = (done : List ℕ) × (all ≡ done ++ left) × Appends old now done

pub appended : (old now new : Option (List ℕ)) (a b : List ℕ) → Appends old now a → Appends now new b → Appends old new (a ++ b)
appended None now new a b p q = tt
appended (Some x) None new a b p q = absurd p
appended (Some x) (Some y) None a b p q = absurd q
appended (Some x) (Some y) (Some z) a b p q = q ∙ ap (λ u. u ++ b) p ∙ append_assoc x a b

pub none_sent : (o : Option (List ℕ)) (all : List ℕ) → Sent o o all all
none_sent None all = ([], refl, tt)
none_sent (Some x) all = ([], refl, sym (append-nil x))

pub piece_sent : (old now new : Option (List ℕ)) (all left rest piece : List ℕ) → left ≡ piece ++ rest → Appends now new piece → Sent old now all left → Sent old new all rest
piece_sent old now new all left rest piece e p h = (h.0 ++ piece, h.1 ∙ ap (λ u. h.0 ++ u) e ∙ sym (append_assoc h.0 piece rest), appended old now new h.0 piece h.2 p)

begins_piece : (p r : List ℕ) (n : ℕ) → (k : ℕ) × (take k (p ++ r) ≡ take n p)
begins_piece p r zero = (0, refl)
begins_piece [] r (suc n) = (0, refl)
begins_piece (x ∷ p) r (suc n) = let b = begins_piece p r n in (suc b.0, ap (λ u. x ∷ u) b.1)

begins : (d p r : List ℕ) (n : ℕ) → (k : ℕ) × (take k (d ++ (p ++ r)) ≡ d ++ take n p)
begins [] p r n = begins_piece p r n
begins (x ∷ d) p r n = let b = begins d p r n in (suc b.0, ap (λ u. x ∷ u) b.1)

pub broken_off : (old now new : Option (List ℕ)) (all left rest piece : List ℕ) → left ≡ piece ++ rest → AppendsBeginning now new piece → Sent old now all left → AppendsBeginning old new all
broken_off old now new all left rest piece e p h =
    let b = begins h.0 piece rest p.0 in
    (b.0, subst (Appends old new) (sym (ap (take b.0) (h.1 ∙ ap (λ u. h.0 ++ u) e) ∙ b.1)) (appended old now new h.0 (take p.0 piece) h.2 p.1))

-- a text that broke off, of which this is the first part
pub first_broken_off : (old new : Option (List ℕ)) (first rest : List ℕ) → AppendsBeginning old new first → AppendsBeginning old new (first ++ rest)
first_broken_off old new first rest p = broken_off old old new (first ++ rest) (first ++ rest) rest first refl p (none_sent old (first ++ rest))

-- a text that is sent after another
pub sent_after : (old now new : Option (List ℕ)) (got wanted : Status) (first rest : List ℕ) → Appends old now first → Sends now new got rest wanted → Sends old new got (first ++ rest) wanted
sent_after old now new got wanted first rest before (inl whole) = inl (whole.0, appended old now new first rest before whole.1)
sent_after old now new got wanted first rest before (inr broke) =
    inr (broke.0, broken_off old now new (first ++ rest) rest [] rest (sym (append-nil rest)) broke.1 (first, refl, before))
