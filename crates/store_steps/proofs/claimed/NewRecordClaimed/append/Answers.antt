use Rattle.std.proofs.Common.{refl}
use Rattle.store_steps.proofs.claimed.NewRecordClaimed.append.Goals as goal

pub append_one-requires-clause-fits : goal.append_one-requires-clause-fits
append_one-requires-clause-fits c = c.requires.fit 0 c.args.self.now refl
