-- What a thread does by a list of steps, and then by another.
use Rattle.std.specs.Prelude.{◌++◌, List}
use Rattle.loader.specs.CatalogueView.{CatalogueView}
use Rattle.node.specs.Steps.{NodeStep, Seen}
use Rattle.node.specs.Seen.{Goes, Ends, Does, Meets}

pub goes_on : {c : CatalogueView} {s t u : Seen} {xs ys : List NodeStep} → Goes c s xs t → Goes c t ys u → Goes c s (xs ++ ys) u
goes_on (Ends s) more = more
goes_on (Does step s t steps e goes) more = Does step s _ _ e (goes_on goes more)
goes_on (Meets s m t steps others goes) more = Meets s m _ _ others (goes_on goes more)
