use Rattle.loader.proofs.Spelled.{spelled}
use Rattle.loader.proofs.Respelled.{respelled}
use Rattle.loader.proofs.laws.each_line_is_its_spelling.Goals as goal

pub returns : goal.returns
returns c = record { spelling = λ l line x ok. (spelled l line x, λ h. respelled l line x ok h.0 h.1) }
