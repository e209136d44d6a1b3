use Rattle.serving.specs.StoreText.{program_line}
use Rattle.serving.proofs.StoreTexts.{line_more, no_line}
use Rattle.serving.proofs.store_texts.put_programs.Goals as goal

pub loop-k-init : goal.loop-k-init
loop-k-init c = no_line program_line c.args.catalogue.now.programs c.args.out.now.items

pub loop-k-preserved : goal.loop-k-preserved
loop-k-preserved c =
    line_more program_line c.args.catalogue.now.programs c.args.out.now.items c.loop-k.k c.loop-k.out.items c.put_program_of.new.out.items c.loop-k.invariant c.in_ok-put_program_of.ensures
