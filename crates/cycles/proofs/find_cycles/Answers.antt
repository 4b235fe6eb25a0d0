use native.Mathlib.Omega.{arith}
use Rattle.bit_row.proofs.Cleared.{zeros_unset}
use Rattle.cycles.proofs.InMemory.{stored_forward, order_below, all_found}
use Rattle.cycles.proofs.find_cycles.Goals as goal

pub complete_all-count-requires : goal.complete_all-count-requires
complete_all-count-requires c =
    let s = c.requires.stored in
    record {
      forward = (stored_forward s, c.requires.modules_in_bounds.0);
      modules_bound = (s.few, λ j. zeros_unset 128 j);
      n_le_modules = (s.nodes_few, omega (arith, s.nodes_few, s.nodes_long), s.node_below);
    }

pub mark_cycles-requires : goal.mark_cycles-requires
mark_cycles-requires c =
    let s = c.requires.stored in
    let a = c.complete_all-count in
    record {
      modules_bound = (s.few, s.edges_long);
      modules_bound_2 = (s.few, (λ j. zeros_unset 128 j), s.few);
      count_le_modules = (a.ensures.0, omega (arith, a.ensures.0, c.requires.modules_in_bounds.0), order_below s _ _ a.ensures.1);
      modules_in_bounds = (c.requires.modules_in_bounds.1, c.requires.modules_in_bounds.2);
    }

pub returns : goal.returns
returns c =
    let a = c.complete_all-count.ensures in
    all_found c.requires.stored _ _ a.1 _ _ _ a.0 c.requires.modules_in_bounds.3 c.mark_cycles.ensures
