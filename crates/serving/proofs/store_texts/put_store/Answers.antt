use Rattle.std.proofs.Common.{◌++◌, length, ap, ◌∙◌}
use Rattle.std.specs.List.{flat_map}
use Rattle.maps.specs.Maps.{Maps}
use Rattle.oplog.specs.Logs.{tail_of}
use Rattle.serving.specs.StoreText.{counts_line, map_line, program_line}
use Rattle.serving.proofs.StoreTexts.{put_together}
use Rattle.serving.proofs.store_texts.put_store.Goals as goal

pub returns : goal.returns
returns c =
    let node = c.args.node.now in
    let state = node.own.replica.state in
    let old = c.args.out.now.items in
    let one = c.put_counts.new.out.items in
    let appended = tail_of node.log in
    let programs = length c.args.catalogue.now.programs in
    put_together c.put_programs.result old one c.put_maps.new.out.items c.put_programs.new.out.items
    (counts_line appended (length state.maps) programs (length state.programs)) (flat_map map_line state.maps) (flat_map program_line c.args.catalogue.now.programs)
    (c.in_ok-put_counts.ensures
    ∙ ap (λ n. old ++ counts_line n c.map_count.result c.len.result c.installed_count.result) c.tail.ensures
    ∙ ap (λ n. old ++ counts_line appended n c.len.result c.installed_count.result) c.map_count.ensures
    ∙ ap (λ n. old ++ counts_line appended (length state.maps) n c.installed_count.result) c.len.ensures.count
    ∙ ap (λ n. old ++ counts_line appended (length state.maps) programs n) c.installed_count.ensures)
    (c.in_ok-put_maps.ensures ∙ ap (λ (m : Maps). one ++ flat_map map_line m) c.maps.ensures.maps) c.put_programs.ensures
