use mathlib.Core.Path.{ap, ◌∙◌}
use Rattle.bit_row.specs.Row.{bytes_for}
use Rattle.bit_row.proofs.Size.{bytes_hold}
use Rattle.determine_side_effects.specs.graph_crate.Check.{graph_in}
use Rattle.dead_records.specs.Dead.{record_count}
use Rattle.dead_records.proofs.Ending.{option_is, found-row, end_row}
use native.Mathlib.Omega.{arith}
use Rattle.dead_records.proofs.show_dead.Goals as goal

pub header_of-h-requires : goal.header_of-h-requires
header_of-h-requires c = c.requires.prepared.loaded.long

pub record_count-records-requires : goal.record_count-records-requires
record_count-records-requires c = c.requires.prepared.loaded

pub fill_first_records-requires : goal.fill_first_records-requires
unfolding graph_in
fill_first_records-requires c = record { loaded = c.requires.prepared.loaded; numbers_in_bounds = omega (arith, c.requires.numbers_in_bounds.0) }

pub show_dead_at_end-requires : goal.show_dead_at_end-requires
show_dead_at_end-requires c =
    let firsts = c.fill_first_records in record { prepared = c.requires.prepared; after_stages = c.requires.after_stages; numbers_in_bounds = (omega (arith, firsts.auto.firsts, c.requires.numbers_in_bounds.0), firsts.ensures, omega (arith, c.clear.auto.row, c.requires.numbers_in_bounds.1, bytes_hold (record_count (graph_in c.args.numbers.now)))) }

pub show_found_dead-requires : goal.show_found_dead-requires
unfolding graph_in
show_found_dead-requires c =
    let firsts = c.fill_first_records in record { prepared = c.requires.prepared; numbers_in_bounds = (c.requires.after_stages.long, omega (arith, c.clear.auto.row, c.requires.numbers_in_bounds.1, bytes_hold (record_count (graph_in c.args.numbers.now)))); numbers_in_bounds_2 = (omega (arith, firsts.auto.firsts, c.requires.numbers_in_bounds.0), firsts.ensures) }

pub returns-then-flag : goal.returns-then-flag
returns-then-flag c =
    end_row c.requires.prepared.loaded _ _ _ _ _ _ _ (c.bytes_for.ensures ∙ ap bytes_for c.record_count-records.ensures.0) c.clear.ensures c.requires.numbers_in_bounds.1
    (c.show_dead_at_end.auto.bits ∙ c.clear.auto.row) (search arith) (search arith)
    (option_is _ _ _ _ c.header_of-h.ensures c.flag.ensures c.if-flag.true) c.show_dead_at_end.ensures

pub returns-else-flag : goal.returns-else-flag
returns-else-flag c =
    found-row c.requires.prepared.loaded _ _ _ _ _ _ _ (c.bytes_for.ensures ∙ ap bytes_for c.record_count-records.ensures.0) c.clear.ensures c.requires.numbers_in_bounds.1
    (c.show_found_dead.auto.bits ∙ c.clear.auto.row) (search arith) (search arith)
    (option_is _ _ _ _ c.header_of-h.ensures c.flag.ensures c.if-flag.false) c.show_found_dead.ensures
