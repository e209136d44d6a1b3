use Rattle.maps.proofs.Pages.{pages_give_all}
use Rattle.maps.proofs.laws.pages_give_all.Goals as goal

pub returns : goal.returns
returns c = pages_give_all
