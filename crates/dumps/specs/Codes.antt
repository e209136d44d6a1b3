-- How a state with its text is told apart, which a model asks for. No public clause cites this module.
use Rattle.std.specs.Prelude.{ℕ, List, refl}
use Rattle.std.specs.Coded.{Coded, code_by, coded×, coded_list, coded_ℕ}
use Rattle.loader.specs.Codes.{state_code}
use Rattle.loader.specs.StoreState.{StoreState}
use Rattle.dumps.specs.Dumping.{StateText}

abbrev pub text_code : Coded StateText
text_code = code_by (StoreState × List ℕ) (coded× state_code (coded_list coded_ℕ)) (λ t. (t.state, t.left)) (λ p. record { state = p.0; left = p.1 }) (λ _. refl)
