use Rattle.std.proofs.Common.{codes, refl}
use Rattle.std.proofs.lemmas.Result.{err_from_is_err_and}
use Rattle.engine.specs.Reading.{named_texts}
use Rattle.engine.proofs.AfterStrangers.{manifest_alone, up_to_file, up_to_state, up_to_history}
use Rattle.engine.proofs.Gatherings.{files_failed, file_failed, state_failed, history_failed, all_read}
use Rattle.engine.proofs.Naming.{files_named, manifest_named, other_named}
use Rattle.engine.proofs.InTurn.{files_in_turn, file_in_turn, state_in_turn, history_in_turn}
use Rattle.engine.proofs.StopsThere.{at_file, at_history, at_state, before_all}
use Rattle.engine.proofs.reading.gather_texts.Goals as goal

pub returns-in_err-files-clause-read : goal.returns-in_err-files-clause-read
returns-in_err-files-clause-read g c =
    let p = err_from_is_err_and c.from_residual-in_err-files.result c.from_residual-in_err-files.ensures.1 in
    rw (p.1, p.2) (files_failed g.F.Folder.holds g.R.Source.remaining c.args.inputs.now c.in_ok-manifest.manifest c.in_ok-manifest.ensures.text c.in_err-files.field-0.0
    (rw c.as_str.ensures.value at c.in_err-files.ensures.gathered))

pub returns-in_err-file-clause-read : goal.returns-in_err-file-clause-read
returns-in_err-file-clause-read g c =
    let p = err_from_is_err_and c.from_residual-in_err-file.result c.from_residual-in_err-file.ensures.1 in
    rw (p.1, p.2) (file_failed g.F.Folder.holds g.R.Source.remaining c.args.inputs.now c.in_ok-manifest.manifest c.in_ok-manifest.ensures.text
    (named_texts c.in_ok-files.files.items) (rw c.as_str.ensures.value at c.in_ok-files.ensures.gathered) c.in_err-file.field-0.0 c.in_err-file.ensures.text)

pub returns-in_err-state-clause-read : goal.returns-in_err-state-clause-read
returns-in_err-state-clause-read g c =
    let p = err_from_is_err_and c.from_residual-in_err-state.result c.from_residual-in_err-state.ensures.1 in
    rw (p.1, p.2) (state_failed g.F.Folder.holds g.R.Source.remaining c.args.inputs.now c.in_ok-manifest.manifest c.in_ok-manifest.ensures.text
    (named_texts c.in_ok-files.files.items) (rw c.as_str.ensures.value at c.in_ok-files.ensures.gathered) c.in_ok-file.file c.in_ok-file.ensures.text c.in_err-state.field-0.0 c.in_err-state.ensures.text)

pub returns-in_err-history-clause-read : goal.returns-in_err-history-clause-read
returns-in_err-history-clause-read g c =
    let p = err_from_is_err_and c.from_residual-in_err-history.result c.from_residual-in_err-history.ensures.1 in
    rw (p.1, p.2) (history_failed g.F.Folder.holds g.R.Source.remaining c.args.inputs.now c.in_ok-manifest.manifest c.in_ok-manifest.ensures.text
    (named_texts c.in_ok-files.files.items) (rw c.as_str.ensures.value at c.in_ok-files.ensures.gathered) c.in_ok-file.file c.in_ok-file.ensures.text c.in_ok-state.state c.in_ok-state.ensures.text
    c.in_err-history.field-0.0 c.in_err-history.ensures.text)

pub returns-clause-read : goal.returns-clause-read
returns-clause-read g c =
    all_read g.F.Folder.holds g.R.Source.remaining c.args.inputs.now
    (record { sizes = c.args.inputs.now.sizes; manifest = c.in_ok-manifest.manifest; files = c.in_ok-files.files; file = c.in_ok-file.file; state = c.in_ok-state.state; history = c.in_ok-history.history }) refl
    c.in_ok-manifest.ensures.text (rw c.as_str.ensures.value at c.in_ok-files.ensures.gathered) c.in_ok-file.ensures.text c.in_ok-state.ensures.text c.in_ok-history.ensures.text

pub returns-in_err-files-clause-failed : goal.returns-in_err-files-clause-failed
returns-in_err-files-clause-failed g c =
    let p = err_from_is_err_and c.from_residual-in_err-files.result c.from_residual-in_err-files.ensures.1 in
    rw (p.1, p.2) (files_in_turn g.F.Folder.holds g.F.Folder.can_fail g.R.Source.remaining g.R.Source.has_failed c.args.inputs.now
    (record c.args.inputs.now { manifest = c.read_given.new.reader }) c.in_ok-manifest.manifest c.in_ok-manifest.ensures.text c.in_err-files.field-0.0 (rw c.as_str.ensures.value at c.in_err-files.ensures.failed))

pub returns-in_err-file-clause-failed : goal.returns-in_err-file-clause-failed
returns-in_err-file-clause-failed g c =
    let p = err_from_is_err_and c.from_residual-in_err-file.result c.from_residual-in_err-file.ensures.1 in
    rw (p.1, p.2) (file_in_turn g.F.Folder.holds g.F.Folder.can_fail g.R.Source.remaining g.R.Source.has_failed c.args.inputs.now
    (record c.args.inputs.now { manifest = c.read_given.new.reader; file = c.read_given-2.new.reader }) c.in_ok-manifest.manifest c.in_ok-manifest.ensures.text
    (named_texts c.in_ok-files.files.items) (rw c.as_str.ensures.value at c.in_ok-files.ensures.gathered) c.in_err-file.field-0.0 c.in_err-file.ensures.failed)

pub returns-in_err-state-clause-failed : goal.returns-in_err-state-clause-failed
returns-in_err-state-clause-failed g c =
    let p = err_from_is_err_and c.from_residual-in_err-state.result c.from_residual-in_err-state.ensures.1 in
    rw (p.1, p.2) (state_in_turn g.F.Folder.holds g.F.Folder.can_fail g.R.Source.remaining g.R.Source.has_failed c.args.inputs.now
    (record c.args.inputs.now { manifest = c.read_given.new.reader; file = c.read_given-2.new.reader; state = c.read_given-3.new.reader }) c.in_ok-manifest.manifest c.in_ok-manifest.ensures.text
    (named_texts c.in_ok-files.files.items) (rw c.as_str.ensures.value at c.in_ok-files.ensures.gathered) c.in_ok-file.file c.in_ok-file.ensures.text c.in_err-state.field-0.0 c.in_err-state.ensures.failed)

pub returns-in_err-history-clause-failed : goal.returns-in_err-history-clause-failed
returns-in_err-history-clause-failed g c =
    let p = err_from_is_err_and c.from_residual-in_err-history.result c.from_residual-in_err-history.ensures.1 in
    rw (p.1, p.2) (history_in_turn g.F.Folder.holds g.F.Folder.can_fail g.R.Source.remaining g.R.Source.has_failed c.args.inputs.now
    (record c.args.inputs.now { manifest = c.read_given.new.reader; file = c.read_given-2.new.reader; state = c.read_given-3.new.reader; history = c.read_given-4.new.reader }) c.in_ok-manifest.manifest c.in_ok-manifest.ensures.text
    (named_texts c.in_ok-files.files.items) (rw c.as_str.ensures.value at c.in_ok-files.ensures.gathered) c.in_ok-file.file c.in_ok-file.ensures.text c.in_ok-state.state c.in_ok-state.ensures.text c.in_err-history.field-0.0 c.in_err-history.ensures.failed)

pub returns-in_err-manifest-clause-unread : goal.returns-in_err-manifest-clause-unread
returns-in_err-manifest-clause-unread g c =
    let p = err_from_is_err_and c.from_residual.result c.from_residual.ensures.1 in
    rw (p.1, p.2) (manifest_alone c.args.inputs.now c.read_given.new.reader c.args.inputs.now.file c.args.inputs.now.state c.args.inputs.now.history c.in_err-manifest.field-0.0)

pub returns-in_err-files-clause-unread : goal.returns-in_err-files-clause-unread
returns-in_err-files-clause-unread g c =
    let p = err_from_is_err_and c.from_residual-in_err-files.result c.from_residual-in_err-files.ensures.1 in
    rw (p.1, p.2) (manifest_alone c.args.inputs.now c.read_given.new.reader c.args.inputs.now.file c.args.inputs.now.state c.args.inputs.now.history c.in_err-files.field-0.0)

pub returns-in_err-file-clause-unread : goal.returns-in_err-file-clause-unread
returns-in_err-file-clause-unread g c =
    let p = err_from_is_err_and c.from_residual-in_err-file.result c.from_residual-in_err-file.ensures.1 in
    rw (p.1, p.2) (up_to_file c.args.inputs.now c.read_given.new.reader c.read_given-2.new.reader c.args.inputs.now.state c.args.inputs.now.history c.in_err-file.field-0.0 c.in_err-file.ensures.named)

pub returns-in_err-state-clause-unread : goal.returns-in_err-state-clause-unread
returns-in_err-state-clause-unread g c =
    let p = err_from_is_err_and c.from_residual-in_err-state.result c.from_residual-in_err-state.ensures.1 in
    rw (p.1, p.2) (up_to_state c.args.inputs.now c.read_given.new.reader c.read_given-2.new.reader c.read_given-3.new.reader c.args.inputs.now.history c.in_err-state.field-0.0 c.in_err-state.ensures.named)

pub returns-in_err-history-clause-unread : goal.returns-in_err-history-clause-unread
returns-in_err-history-clause-unread g c =
    let p = err_from_is_err_and c.from_residual-in_err-history.result c.from_residual-in_err-history.ensures.1 in
    rw (p.1, p.2) (up_to_history c.args.inputs.now c.read_given.new.reader c.read_given-2.new.reader c.read_given-3.new.reader c.read_given-4.new.reader c.in_err-history.field-0.0 c.in_err-history.ensures.named)

pub returns-in_err-manifest-clause-stops : goal.returns-in_err-manifest-clause-stops
returns-in_err-manifest-clause-stops g c = before_all g.F.Folder.holds g.R.Source.remaining c.args.inputs.now c.read_given.new.reader

pub returns-in_err-files-clause-stops : goal.returns-in_err-files-clause-stops
returns-in_err-files-clause-stops g c = before_all g.F.Folder.holds g.R.Source.remaining c.args.inputs.now c.read_given.new.reader

pub returns-in_err-file-clause-stops : goal.returns-in_err-file-clause-stops
returns-in_err-file-clause-stops g c = at_file g.F.Folder.holds g.R.Source.remaining c.args.inputs.now c.read_given.new.reader c.read_given-2.new.reader c.args.inputs.now.state c.args.inputs.now.history c.in_ok-manifest.manifest c.in_ok-manifest.ensures.text (named_texts c.in_ok-files.files.items) (rw c.as_str.ensures.value at c.in_ok-files.ensures.gathered)

pub returns-in_err-state-clause-stops : goal.returns-in_err-state-clause-stops
returns-in_err-state-clause-stops g c =
    at_state g.F.Folder.holds g.R.Source.remaining c.args.inputs.now c.read_given.new.reader c.read_given-2.new.reader c.read_given-3.new.reader c.args.inputs.now.history
    c.in_ok-manifest.manifest c.in_ok-manifest.ensures.text (named_texts c.in_ok-files.files.items) (rw c.as_str.ensures.value at c.in_ok-files.ensures.gathered) c.in_ok-file.file c.in_ok-file.ensures.text

pub returns-in_err-history-clause-stops : goal.returns-in_err-history-clause-stops
returns-in_err-history-clause-stops g c =
    at_history g.F.Folder.holds g.R.Source.remaining c.args.inputs.now c.read_given.new.reader c.read_given-2.new.reader c.read_given-3.new.reader c.read_given-4.new.reader
    c.in_ok-manifest.manifest c.in_ok-manifest.ensures.text (named_texts c.in_ok-files.files.items) (rw c.as_str.ensures.value at c.in_ok-files.ensures.gathered) c.in_ok-file.file c.in_ok-file.ensures.text c.in_ok-state.state c.in_ok-state.ensures.text

pub returns-clause-stops : goal.returns-clause-stops
returns-clause-stops g c =
    at_history g.F.Folder.holds g.R.Source.remaining c.args.inputs.now c.read_given.new.reader c.read_given-2.new.reader c.read_given-3.new.reader c.read_given-4.new.reader
    c.in_ok-manifest.manifest c.in_ok-manifest.ensures.text (named_texts c.in_ok-files.files.items) (rw c.as_str.ensures.value at c.in_ok-files.ensures.gathered) c.in_ok-file.file c.in_ok-file.ensures.text c.in_ok-state.state c.in_ok-state.ensures.text

pub returns-in_err-manifest-clause-naming : goal.returns-in_err-manifest-clause-naming
returns-in_err-manifest-clause-naming g c =
    let p = err_from_is_err_and c.from_residual.result c.from_residual.ensures.1 in
    rw (p.1, p.2) (manifest_named g.F.Folder.holds g.R.Source.remaining c.args.inputs.now c.in_err-manifest.field-0.0 c.in_err-manifest.ensures.named c.in_err-manifest.ensures.text)

pub returns-in_err-files-clause-naming : goal.returns-in_err-files-clause-naming
returns-in_err-files-clause-naming g c =
    let p = err_from_is_err_and c.from_residual-in_err-files.result c.from_residual-in_err-files.ensures.1 in
    rw (p.1, p.2) (files_named g.F.Folder.holds g.R.Source.remaining c.args.inputs.now c.in_ok-manifest.manifest c.in_ok-manifest.ensures.text c.in_err-files.field-0.0
    (rw c.as_str.ensures.value at c.in_err-files.ensures.naming) (rw c.as_str.ensures.value at c.in_err-files.ensures.gathered))

pub returns-in_err-file-clause-naming : goal.returns-in_err-file-clause-naming
returns-in_err-file-clause-naming g c =
    let p = err_from_is_err_and c.from_residual-in_err-file.result c.from_residual-in_err-file.ensures.1 in
    rw (p.1, p.2) (other_named g.F.Folder.holds g.R.Source.remaining c.args.inputs.now c.in_ok-manifest.manifest c.in_ok-manifest.ensures.text
    (named_texts c.in_ok-files.files.items) (rw c.as_str.ensures.value at c.in_ok-files.ensures.gathered) c.in_err-file.field-0.0 (codes "the file") c.in_err-file.ensures.named)

pub returns-in_err-state-clause-naming : goal.returns-in_err-state-clause-naming
returns-in_err-state-clause-naming g c =
    let p = err_from_is_err_and c.from_residual-in_err-state.result c.from_residual-in_err-state.ensures.1 in
    rw (p.1, p.2) (other_named g.F.Folder.holds g.R.Source.remaining c.args.inputs.now c.in_ok-manifest.manifest c.in_ok-manifest.ensures.text
    (named_texts c.in_ok-files.files.items) (rw c.as_str.ensures.value at c.in_ok-files.ensures.gathered) c.in_err-state.field-0.0 (codes "the state") c.in_err-state.ensures.named)

pub returns-in_err-history-clause-naming : goal.returns-in_err-history-clause-naming
returns-in_err-history-clause-naming g c =
    let p = err_from_is_err_and c.from_residual-in_err-history.result c.from_residual-in_err-history.ensures.1 in
    rw (p.1, p.2) (other_named g.F.Folder.holds g.R.Source.remaining c.args.inputs.now c.in_ok-manifest.manifest c.in_ok-manifest.ensures.text
    (named_texts c.in_ok-files.files.items) (rw c.as_str.ensures.value at c.in_ok-files.ensures.gathered) c.in_err-history.field-0.0 (codes "the history") c.in_err-history.ensures.named)
