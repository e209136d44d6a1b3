-- To the transcripts that `stress` may write `replay` answers that they are good.
use Rattle.std.proofs.Common.{◌≤◌, ◌≡◌, ◌∙◌, ℕ, ◌+◌, Bool, true, false, not, List, [], ◌∷◌, ◌++◌, map, slice_get, nat_le, Some, None, Ok, sym, ap, subst, arith}
use Rattle.std.specs.Prelude.{if◌then◌else◌, codes, option_map}
use Rattle.std.specs.List.{All}
use Rattle.std.specs.Str.{IsUtf8}
use Rattle.std.proofs.lemmas.Bool.{le-leb}
use Rattle.std.proofs.lemmas.List.Elements.{All-nil, All-cons, All-head, All-tail}
use Rattle.std.proofs.lemmas.List.Sorted.{All-permutation}
use Rattle.std.proofs.lemmas.Str.{is_utf8-from_IsUtf8}
use Rattle.text.specs.Lines.{lines_of}
use Rattle.loader.specs.declared.installed.TheConstants.{MAX_SPARE}
use Rattle.loader.specs.CatalogueView.{CatalogueView, IsCatalogue, Entry, with_places}
use Rattle.loader.specs.Loading.{Outcome, loaded_within}
use Rattle.loader.specs.ProgramFiles.{Files}
use Rattle.oplog.specs.declared.configuration.Config.{Config}
use Rattle.replica.specs.StoreMeaning.{AreUpdates}
use Rattle.oplog.specs.Limits.{IsConfig}
use Rattle.engine.specs.Answer.{Answer}
use Rattle.std.specs.Str.{is_utf8}
use Rattle.text.specs.Words.{is_name}
use Rattle.engine.specs.declared.reading.MapSizes.{MapSizes}
use Rattle.engine.specs.declared.reading.MapSizes.TheVariants.{Standard, Large}
use Rattle.engine.specs.Reading.{Given, files_in, first_stranger, read, limits_of}
use Rattle.engine.specs.Unread.{first_strange}
use Rattle.engine.proofs.Export.{found, is_strange, unless_strange, are_limits}
use Rattle.engine.specs.Opening.{opening, opening_of, places_within}
use Rattle.engine.specs.Report.{answer_of}
use Rattle.engine.specs.Sizes.{are_sizes, places_in}
use Rattle.engine.specs.StateAnswer.{opened_by}
use Rattle.engine.specs.declared.replies.Verdict.TheVariants as verdicts
use Rattle.replaying.specs.ReplayAnswer.{good_text, nothing_replayed, replay_answer, replayed_on, transcript_answer}
use Rattle.stress.specs.declared.stressed.Stressed.{Stressed}
use Rattle.stress.specs.declared.watching.Counts.{Counts}
use Rattle.stress.specs.Calls.{Called, script_calls, told_as}
use Rattle.stress.specs.Good.{IsFoundGood, good_of}
use Rattle.stress.specs.Lines.{ToldCall, suits, transcript_text}
use Rattle.stress.specs.Runs.{IsRun}
use Rattle.stress.specs.Transcripts.{IsTranscript}
use Rattle.stress.specs.Playing.{calls_of}
use Rattle.stress.specs.Lines.{is_ended}
use Rattle.stress.specs.Timed.{how_many, is_updated, is_seen, AreCounted}
use Rattle.stress.proofs.Agreeing.{transcripts_agree}
use Rattle.stress.proofs.Fit.{IsFit, script_fit}
use Rattle.stress.proofs.GoodLines.{Fits, counted, all_go, is_text_of}
use Rattle.stress.proofs.Programs.{is_within, IsWithin}
use Rattle.stress.proofs.ReadBack.{FitLines}
use Rattle.stress.proofs.Transcripts.{each_call_has_one_line}
use Rattle.stress.proofs.Sizes.{sizes_from}

-- ---- what is read

-- where one text stands for another, no text is strange that was none
replaced : (before behind : Files) (old new : List ℕ × List ℕ) → is_strange new ≡ false → first_strange (before ++ old ∷ behind) ≡ None → first_strange (before ++ new ∷ behind) ≡ None
replaced [] behind old new fine none = rw fine (by (is_strange old) none)
  where
    by : (b : Bool) → (if b then Some old else first_strange behind) ≡ None → first_strange behind ≡ None
    by true e = absurd cc
    by false e = e
replaced (f ∷ before) behind old new fine none = by (is_strange f) (replaced before behind old new fine) none
  where
    by : (b : Bool) → (first_strange (before ++ old ∷ behind) ≡ None → first_strange (before ++ new ∷ behind) ≡ None)
        → (if b then Some f else first_strange (before ++ old ∷ behind)) ≡ None → (if b then Some f else first_strange (before ++ new ∷ behind)) ≡ None
    by true rest e = absurd cc
    by false rest e = rest e

-- a text in place of the file, where all is text
read_with : (g : Given) (text : List ℕ) → is_utf8 text ≡ true → first_stranger g ≡ None → read (record g { file = text }) ≡ Some (found (record g { file = text }))
read_with g text is none =
    ap (λ o. unless_strange o (found (record g { file = text })))
    (replaced ((codes "the manifest", g.manifest) ∷ files_in g) ((codes "the state", g.state) ∷ (codes "the history", g.history) ∷ []) (codes "the file", g.file) (codes "the file", text) (ap not is) none)

-- ---- what is answered on a catalogue

of_map : {A B : Type 0} (P : B → Type 0) (f : A → B) (xs : List A) → All P (map f xs) → All (λ x. P (f x)) xs
of_map P f [] h = All-nil (λ x. P (f x))
of_map P f (x ∷ xs) h = All-cons (λ x. P (f x)) x xs (All-head P (f x) (map f xs) h) (of_map P f xs (All-tail P (f x) (map f xs) h))

module _ (c : CatalogueView) (whole : IsCatalogue c) (lines : FitLines c) (config : Config) (sizes : IsConfig config) (calls : List Called) (fit : All (IsFit c) calls) (a : Answer) (t : IsTranscript config c calls a)
    (counts : Counts) (are : AreCounted t.told counts) where
  all_fit : All (Fits c whole lines) t.told
  all_fit k d below =
      let fits = of_map (IsFit c) (λ (x : ToldCall). x.call) t.told (All-permutation (IsFit c) calls (calls_of t.told) (each_call_has_one_line config c calls a sizes t) fit) in
      let suited = All-permutation (λ (x : ToldCall). suits (told_as x.call.asked) x.said ≡ true) t.asked t.told t.same t.suited in
      (fits k d below, suited k d below)

  abbrev IsGood : Type 0
  IsGood = (is_utf8 a.text ≡ true) × (replayed_on a.text (Ok c) ≡ good_of counts)

  pub is_good : IsGood
  is_good =
      let none : AreUpdates c [] = λ k r e. absurd cc in
      let go = all_go c whole lines 1 nothing_replayed t.told (none, omega arith) (omega arith, omega arith) all_fit (transcripts_agree config c calls a sizes t) in
      let text = is_text_of c whole lines t.told go.0 in
      let same : a.text ≡ transcript_text c t.told = ap (λ (x : Answer). x.text) t.is in
      let first : 0 + how_many is_updated t.told ≡ counts.updates = omega (arith, are.updates) in
      let second : 0 + how_many is_seen t.told ≡ counts.reads = omega (arith, are.reads) in
      let third : 0 + how_many is_ended t.told ≡ counts.ended = omega (arith, are.ended) in (
        is_utf8-from_IsUtf8 a.text (subst IsUtf8 (sym same) text.1),
        ap (transcript_answer c 1 nothing_replayed) (ap lines_of same ∙ text.0) ∙ go.1
            ∙ (λ i. record { text = good_text (first i) (counted (second i)) (counted (third i)); verdict = verdicts.Good }),
      )

-- ---- what is answered to what is given

-- by either limits an argument has room in a line
line_fits : (z : MapSizes) (e : Entry) → IsWithin (limits_of z) e → (is_name e.name ≡ true) × (e.checked.arg_len ≤ 192)
line_fits Standard e h = let few = h.1 in (h.0, omega (arith, few))
line_fits Large e h = let few = h.1 in (h.0, omega (arith, few))

module _ (config : Config) (timed : Bool) (g : Given) (s : Stressed) (texts : first_stranger g ≡ None) (sizes : are_sizes config ≡ true) (base : CatalogueView) (is : loaded_within (limits_of g.sizes) g.manifest (files_in g) ≡ Ok base) where
  pub found_good : (opened : CatalogueView) → IsCatalogue opened → opened.programs ≡ base.programs → opened.long ≡ 0 → opened_by (with_places base config.spare) g.state ≡ Ok opened
      → (calls : List Called) → script_calls opened 1 (lines_of g.file) ≡ Ok calls → IsRun config timed opened calls s → IsFoundGood config timed g s
  found_good opened whole same none opens calls asked run =
      let text = s.reply.text.items in
      let within = sizes_from config sizes in
      let lines : FitLines opened = (λ k e at. line_fits g.sizes e (is_within (limits_of g.sizes) g.manifest (files_in g) base k e (are_limits g.sizes) is (subst (λ (es : List Entry). slice_get es k ≡ Some e) same at)), omega (arith, none)) in
      let good = is_good opened whole lines config within calls (script_fit opened 1 (lines_of g.file) calls asked) (answer_of s.reply) run.transcript s.counts run.counts in
      let placed : nat_le config.spare MAX_SPARE ≡ true = le-leb config.spare MAX_SPARE within.spare in
      record {
        opened = opened;
        opens =
            ap (λ o. option_map (opening (places_in config)) (unless_strange o (found g))) texts
            ∙ ap (λ (o : Outcome). Some (opening_of (places_in config) o g.state)) is
            ∙ ap (λ b. Some (opening_of (if b then Some config.spare else None) (Ok base) g.state)) sizes
            ∙ ap (λ o. Some o) opens;
        calls = calls;
        asked = asked;
        run = run;
        good =
            ap (replay_answer config.spare) (read_with g text good.0 texts)
            ∙ ap (λ (o : Outcome). replayed_on text (opening_of (places_within config.spare) o g.state)) is
            ∙ ap (λ b. replayed_on text (opening_of (if b then Some config.spare else None) (Ok base) g.state)) placed
            ∙ ap (replayed_on text) opens
            ∙ good.1;
      }
