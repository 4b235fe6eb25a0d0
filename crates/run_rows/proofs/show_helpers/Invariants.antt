use Rattle.determine_side_effects.specs.graph_tables_crate.Tables.{header_in}
use Prim.Native.Nat.{◌+◌}
use mathlib.Core.Path.{◌≡◌}
use lib.ListN.{get_or, drop}
use mathlib.Core.List.{◌++◌}
use Rattle.determine_side_effects.specs.graph_access_crate.Words.{tabulate}
use Rattle.entry_order.specs.Plan.{words_at}
use Rattle.run_rows.proofs.show_helpers.Given as goal

abbrev pub invariant-loop-m : goal.invariant-loop-m
invariant-loop-m l = l.words ≡ tabulate (λ i. get_or l.plan (words_at (header_in l.numbers) + i) 0) 0 l.m ++ drop l.m l.initial.words
