use Rattle.std.proofs.lemmas.Result.{on_ok_weaker}
use Rattle.findings.proofs.Tokens.{both}
use Rattle.findings.proofs.objects.put_not_text.Goals as goal

pub returns : goal.returns
returns c = on_ok_weaker c.put_text-2.result (λ second. both c.args.out.now c.put_text.new.out c.put_text-2.new.out _ _ c.in_ok-put_text.ensures second) c.put_text-2.ensures
