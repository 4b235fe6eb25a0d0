use mathlib.Core.Path.{◌∙◌}
use Rattle.determine_side_effects.specs.graph_crate.Check.{graph_in}
use Rattle.dead_records.proofs.Late.{late_kept}
use Rattle.dead_records.proofs.Ending.{end-bits}
use native.Mathlib.Omega.{arith}
use Rattle.dead_records.proofs.show_dead_at_end.Goals as goal

pub clear_words-requires : goal.clear_words-requires
unfolding graph_in
clear_words-requires c = (c.requires.prepared.loaded.long, c.requires.numbers_in_bounds.0)

pub note_late-requires : goal.note_late-requires
unfolding graph_in
note_late-requires c = record { loaded = c.requires.prepared.loaded; from_le_to = (c.requires.after_stages.held.base_inside, c.requires.after_stages.held.room, c.requires.after_stages.held.good); numbers_in_bounds = (omega (arith, c.clear_words.auto.scratch, c.requires.numbers_in_bounds.0), c.clear_words.ensures.1) }

pub show_dead_now-requires : goal.show_dead_now-requires
unfolding graph_in
show_dead_now-requires c = record { prepared = c.requires.prepared; numbers_in_bounds = (c.requires.after_stages.long, c.requires.numbers_in_bounds.2, record { words = omega (arith, c.note_late.auto.scratch, c.clear_words.auto.scratch, c.requires.numbers_in_bounds.0); wide = c.requires.after_stages.held.wide }); has_cycles = (c.requires.after_stages.cycles, λ m l. c.note_late.ensures.0 m l ∙ c.clear_words.ensures.0 m l ∙ c.requires.numbers_in_bounds.1 m l) }

pub exempt-requires : goal.exempt-requires
unfolding graph_in
exempt-requires c = record { loaded = c.requires.prepared.loaded; numbers_in_bounds = (c.requires.after_stages.long, omega (arith, c.show_dead_now.auto.bits, c.requires.numbers_in_bounds.2), record { words = omega (arith, c.note_late.auto.scratch, c.clear_words.auto.scratch, c.requires.numbers_in_bounds.0); wide = c.requires.after_stages.held.wide }); has_firsts = λ m l. c.note_late.ensures.0 m l ∙ c.clear_words.ensures.0 m l ∙ c.requires.numbers_in_bounds.1 m l }

pub returns : goal.returns
returns c =
    end-bits c.requires.prepared.loaded _ _ _ _ _ _ _ (late_kept c.requires.prepared.loaded _ _ _ _ _ c.requires.after_stages.held c.note_late.ensures.1) c.show_dead_now.ensures c.exempt.ensures
