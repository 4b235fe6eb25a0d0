use Rattle.determine_side_effects.specs.graph_crate.Check.{graph_in}
use Rattle.run_parts.proofs.Showing.{still_fits, after_stages, run-shown}
use Rattle.run_parts.proofs.show_run.Goals as goal

pub show_dead-requires : goal.show_dead-requires
unfolding graph_in
show_dead-requires c = record { prepared = c.requires.prepared; after_stages = after_stages _ _ _ _ _ c.requires.shows; numbers_in_bounds = (c.requires.scratch_fits.0.kept, c.requires.scratch_fits.1.dead_fit) }

pub show_helpers-requires : goal.show_helpers-requires
unfolding graph_in
show_helpers-requires c = record { in_bounds = (c.requires.prepared.loaded.long, c.requires.shows.leaves.planned.long, c.requires.scratch_fits.1.helpers_fit); by_index = λ m l. (c.requires.shows.words m l).1 }

pub show_entries-requires : goal.show_entries-requires
unfolding graph_in
show_entries-requires c = record { loaded = c.requires.prepared.loaded; planned = c.requires.shows.leaves.planned; numbers_in_bounds = ((still_fits c.show_dead.auto.scratch c.requires.scratch_fits.0).chain, c.requires.scratch_fits.1.entries_fit) }

pub returns : goal.returns
unfolding graph_in
returns c = run-shown _ _ _ _ _ c.requires.shows _ _ _ _ _ _ c.show_dead.ensures c.show_helpers.ensures c.show_entries.ensures.1 c.show_entries.ensures.0
