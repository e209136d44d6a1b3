use Rattle.dumps.proofs.LoadedState.{loaded_is_state}
use Rattle.dumps.proofs.laws.loaded_is_state.Goals as goal

pub returns : goal.returns
returns c = λ z text s ok few limit h. loaded_is_state z ok limit text s few h
