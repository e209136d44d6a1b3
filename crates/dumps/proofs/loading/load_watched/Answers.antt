use Rattle.std.proofs.Common.{Ok, sym, ◌∙◌, refl}
use Rattle.loader.specs.CatalogueView.{sizes_for}
use Rattle.dumps.specs.Loading.{loaded_state}
use Rattle.dumps.specs.Refusal.{IsLoadAnswer}
use Rattle.maps.proofs.Export.{stored_are}
use Rattle.dumps.proofs.LoadedFor.{all_may_open}
use Rattle.dumps.proofs.Loop.{one_on, fails_here, at_end}
use Rattle.dumps.proofs.loading.load_watched.Goals as goal

pub loop-number-init : goal.loop-number-init
unfolding loaded_state
loop-number-init g c = (c.in_ok-so_far.ensures.sizes, rw (c.new-lines.ensures.all, c.in_ok-so_far.ensures.opened) refl)

pub loop-number-preserved : goal.loop-number-preserved
loop-number-preserved g c =
    let taken = c.in-Some.ensures.taken in
    let next = one_on (sizes_for c.args.catalogue.now) c.loop-number.lines.number c.take_line.new.self.number _ _ c.loop-number.lines.lines c.take_line.new.self.lines _ taken.0 taken.2 c.in-Ok.ensures.made in
    (c.take_ended.ensures.same, sym next ∙ c.loop-number.invariant.1)

pub returns-in-Err : goal.returns-in-Err
returns-in-Err g c =
    let taken = c.in-Some.ensures.taken in
    record {
      loaded =
          rw (c.at.ensures, taken.1)
          (fails_here c.in-Err.e (sizes_for c.args.catalogue.now) c.loop-number.lines.number _ c.loop-number.lines.lines c.take_line.new.self.lines _ _ taken.0 c.in-Err.ensures.made c.loop-number.invariant.1);
      fits = tt;
    }

pub of-requires-clause-shapes : goal.of-requires-clause-shapes
of-requires-clause-shapes g c = record { same = refl; each = c.loop-number.invariant.0.each }

pub of-requires-clause-programs : goal.of-requires-clause-programs
of-requires-clause-programs g c = c.loop-number.invariant.0.programs ∙ sym c.loop-number.invariant.0.maps ∙ stored_are _

pub returns : goal.returns
returns g c =
    let taken = c.in_default.ensures.taken in
    let loaded : IsLoadAnswer (loaded_state (sizes_for c.args.catalogue.now) c.args.text.now) (Ok c.of.result) = rw c.of.ensures.state (at_end (sizes_for c.args.catalogue.now) c.loop-number.lines.number _ c.loop-number.lines.lines _ taken.0 c.loop-number.invariant.1) in
    record {
      loaded = loaded;
      fits = all_may_open c.args.catalogue.now c.args.text.now (Ok c.of.result) c.places-places.ensures.whole loaded;
    }
