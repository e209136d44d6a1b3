use Rattle.std.proofs.Common.{◌∙◌, ◌*◌, ap, subst, sym}
use Rattle.std.specs.Prelude.{MatchResult}
use Rattle.std.proofs.lemmas.Result.{IfOk-weaker}
use Rattle.oplog.specs.declared.configuration.Sizes.{Sizes}
use Rattle.oplog.specs.Limits.{sizes_in}
use Rattle.store.specs.Sessions.{IsOf}
use Rattle.store.proofs.Export.{all_of_at}
use Rattle.stress.specs.Playing.{AreTold, IsWritten}
use Rattle.stress.specs.Teams.{WereTold}
use Rattle.stress.specs.Transcripts.{session_count}
use Rattle.stress.proofs.EachTeam.{all_in_teams, numbered_team}
use Rattle.stress.proofs.OneHistory.{left_in}
use Rattle.stress.proofs.Transcripts.{is_left}
use Rattle.stress.proofs.command.Stress.tell_all.Goals as goal

pub play_all-told-requires-clause-rooms : goal.play_all-told-requires-clause-rooms
play_all-told-requires-clause-rooms g c κs within =
    let config = c.args.self.now.config in
    let together = c.team_size-together.result in
    (c.in_ok-teams.ensures.1, ap (λ k. k * together) c.in_ok-teams.ensures.0 ∙ all_in_teams (sizes_in config) together config.nodes c.team_size-together.ensures.whole)

pub close-state-requires : goal.close-state-requires
close-state-requires g c =
    let all = c.play_all-told in
    record {
      whole = (
        all.ensures.count ∙ ap (λ (z : Sizes). z.nodes * z.slots) (sym c.in-Ok.ensures.sizes),
        all_of_at (IsOf c.in-Ok.store) all.new.sessions.items all.ensures.back.team.own,
      );
    }

pub returns : goal.returns
returns g c =
    let all = c.play_all-told in
    let config = c.args.self.now.config in
    let sessions = all.new.sessions.items in
    let told = all.result.0 in
    let were = all.ensures.back.were in
    let known = IfOk-weaker told (λ v. WereTold (session_count config) c.args.calls.now sessions v.items) (λ v. AreTold sessions v.items) (λ v t. t.known) were in
    let ends =
    left_in (λ v. v.items) c.args.catalogue (sizes_in config) c.close-state.result c.in-Ok.store sessions c.in-Ok.ensures.sizes c.in-Ok.ensures.catalogue
    c.close-state.ensures.closed (numbered_team c.in-Ok.store sessions all.ensures.back.team) told known in
    record {
      left = is_left (λ v. v.items) config c.args.catalogue c.args.self.now.has_history c.args.calls.now sessions told
          (record { written = c.in_ok-written.field-0; state = c.close-state.result }) all.ensures.count were ends
          (subst (λ x. MatchResult told (λ v. IsWritten x c.args.self.now.has_history v.items c.in_ok-written.field-0) (λ _. ⊥))
          (c.catalogue-2.ensures.catalogue ∙ c.in-Ok.ensures.catalogue) c.in_ok-written.ensures);
    }
