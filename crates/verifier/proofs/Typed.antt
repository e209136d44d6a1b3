-- The table of a pass that found no broken rule is a typing of a structured program.
use Rattle.std.proofs.Common.{◌≡◌, ℕ, ◌<◌, ◌≤◌, List, length, Option, Some, None, refl, sym, ap, ◌∙◌, ⊎_elim, subst, arith}
use Rattle.std.specs.Prelude.{slice_get}
use Rattle.std.proofs.lemmas.Bool.{cases_lt}
use Rattle.std.proofs.lemmas.Option.{slice_get_past}
use Rattle.insn.specs.declared.instruction.Form.{Form}
use Rattle.insn.specs.Layout.{size}
use Rattle.regkind.specs.Frames.{Frame, Covers, IsFrame, entry_frame}
use Rattle.regkind.proofs.Export.{IsFrame-entry}
use Rattle.flow.specs.Structure.{IsStructured}
use Rattle.flow.proofs.Export.{target_stands, stands_within}
use Rattle.verifier.specs.Signature.{Signature}
use Rattle.verifier.specs.Rules.{first_broken}
use Rattle.verifier.specs.FrameAfter.{frame_after}
use Rattle.verifier.specs.Pass.{Table, or_entry, frame_at, IsTypedBy}
use Rattle.verifier.specs.Joined.{joined_frame}
use Rattle.verifier.specs.Verdict.{lowest_refusal}
use Rattle.verifier.proofs.Joins.{joined_at, or_entry_frame, has_joined}
use Rattle.verifier.proofs.VerdictLaws.{typed_by_joins}

module _ (p : List Form) (l : Signature) (structured : IsStructured p) (xs : Table) (long : length xs ≡ size p) (unbroken : lowest_refusal p l (size p) ≡ None) (known : (t : ℕ) → t < size p → slice_get xs t ≡ Some (joined_frame p t)) where
  same : (o : Option Frame) → or_entry (Some o) ≡ or_entry_frame o
  same None = refl
  same (Some f) = refl

  at_is : (t : ℕ) → t < size p → frame_at xs t ≡ joined_at p t
  at_is t lt = ap or_entry (known t lt) ∙ same (joined_frame p t)

  past : (t : ℕ) → size p ≤ t → frame_at xs t ≡ entry_frame
  past t le = ap or_entry (slice_get_past xs t (omega (arith, long)))

  pub typed_by : IsTypedBy p l xs
  typed_by =
      let by_joins = typed_by_joins p l structured unbroken in
      record {
        slots = long;
        each = λ i s stands. (joined_at p s, known s (stands_within p i s stands) ∙ ap Some (has_joined p structured i s stands).0);
        typing = record {
          frames = λ s. ⊎_elim (λ lt. subst IsFrame (sym (at_is s lt)) (by_joins.frames s)) (λ ge. subst IsFrame (sym (past s ge)) IsFrame-entry) (cases_lt s (size p));
          entry = subst (λ g. Covers g entry_frame) (sym (at_is 0 structured.size_good.some)) by_joins.entry;
          each = λ i s stands. ap (first_broken l i) (at_is s (stands_within p i s stands)) ∙ by_joins.each i s stands;
          edges = λ i s t d leads.
              let to = target_stands p i s t d structured leads.0 leads.1 in
              subst (λ g. Covers g (frame_after i (frame_at xs s) d)) (sym (at_is t (stands_within p to.0 t to.1)))
              (subst (λ g. Covers (joined_at p t) (frame_after i g d)) (sym (at_is s (stands_within p i s leads.0))) (by_joins.edges i s t d leads));
        };
      }
