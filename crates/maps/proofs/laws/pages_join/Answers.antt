use Rattle.maps.proofs.Pages.{pages_join}
use Rattle.maps.proofs.laws.pages_join.Goals as goal

pub returns : goal.returns
returns c = pages_join
