use Rattle.store_laws.proofs.Meanwhile.{meanwhile}
use Rattle.store_laws.proofs.laws.between_steps.Goals as goal

pub returns : goal.returns
returns c = meanwhile
