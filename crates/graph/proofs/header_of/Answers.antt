use Prim.Native.Nat.{ℕ, ◌<◌}
use mathlib.Core.Path.{◌≡◌, ◌∙◌, sym}
use native.Mathlib.Omega.{arith}
use lib.ListN.{get_or, take}
use lib.Seq.{get_or-take}
use Rattle.graph_entries.specs.graph_format_crate.Format.{header_of}
use Rattle.graph_entries.specs.graph_tables_crate.Tables.{header_in}
use Rattle.graph.proofs.header_of.Goals as goal

pub bounds-numbers-0 : goal.bounds-numbers-0
bounds-numbers-0 c = omega (arith, c.requires)

pub bounds-numbers-1 : goal.bounds-numbers-1
bounds-numbers-1 c = omega (arith, c.requires)

pub bounds-numbers-2 : goal.bounds-numbers-2
bounds-numbers-2 c = omega (arith, c.requires)

pub bounds-numbers-3 : goal.bounds-numbers-3
bounds-numbers-3 c = omega (arith, c.requires)

pub bounds-numbers-4 : goal.bounds-numbers-4
bounds-numbers-4 c = omega (arith, c.requires)

pub bounds-numbers-5 : goal.bounds-numbers-5
bounds-numbers-5 c = omega (arith, c.requires)

pub bounds-numbers-6 : goal.bounds-numbers-6
bounds-numbers-6 c = omega (arith, c.requires)

pub returns : goal.returns
unfolding header_in header_of
returns c = let e : (i : ℕ) → i < 7 → get_or c.args.numbers.now i 0 ≡ get_or (take 7 c.args.numbers.now) i 0 = λ i l. sym (get_or-take 7 c.args.numbers.now i 0 l) in
    cc (c.wide.ensures ∙ e 0 (omega arith), c.wide-2.ensures ∙ e 1 (omega arith), c.wide-3.ensures ∙ e 2 (omega arith), c.wide-4.ensures ∙ e 3 (omega arith), c.wide-5.ensures ∙ e 4 (omega arith), c.wide-6.ensures ∙ e 5 (omega arith), c.wide-7.ensures ∙ e 6 (omega arith))
