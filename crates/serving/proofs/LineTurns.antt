-- The turn of a line, from what was done with it.
use Rattle.std.proofs.Common.{◌≡◌, ℕ, true, false, List, ◌++◌, length, Option, Some, None, refl, sym, ap, subst, ◌∙◌}
use Rattle.loader.specs.CatalogueView.{CatalogueView}
use Rattle.loader.specs.StoreState.{StoreState}
use Rattle.oplog.specs.History.{History}
use Rattle.oplog.specs.Logs.{tail_of}
use Rattle.oplog.specs.declared.configuration.TheConstants.{ENDLESS}
use Rattle.running.specs.declared.single_node.SingleNode.{SingleNode}
use Rattle.running.specs.RunAnswer.{Turn}
use Rattle.running.specs.Running.{Follows, LineTaken}
use Rattle.running.proofs.Export as run_turns
use Rattle.serving.specs.StoreText.{store_text}
use Rattle.serving.specs.ServeAnswer.{asking_turn}

pub none_taken : (c : CatalogueView) (o : Option Turn) (node : SingleNode) (old : List ℕ) → o ≡ None → LineTaken ENDLESS c o false node old old
none_taken c o node old is = subst (λ (x : Option Turn). LineTaken ENDLESS c x false node old old) (sym is) (refl, refl)

-- a line that asks
pub told : (c : CatalogueView) (h : History) (node : SingleNode) (old new : List ℕ) → Follows ENDLESS c h node → new ≡ old ++ store_text (tail_of node.log) c node.own.replica.state
    → (o : Option Turn) → Some (asking_turn c h) ≡ o → LineTaken ENDLESS c o true node old new
told c h node old new follows put o is =
    subst (λ (x : Option Turn). LineTaken ENDLESS c x true node old new) is (
      refl,
      record {
        written = put ∙ ap (λ n. old ++ store_text n c node.own.replica.state) follows.count
            ∙ ap (λ (z : StoreState). old ++ store_text (length h) c z) (sym (run_turns.here ENDLESS c h node follows));
        placed = follows;
      },
    )
