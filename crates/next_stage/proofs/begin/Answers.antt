use Prim.Native.Nat.{ℕ, ◌*◌, ◌<◌}
use mathlib.Core.Path.{◌≡◌, ap, ◌∙◌}
use mathlib.Core.List.{List}
use native.Mathlib.Omega.{arith}
use Rattle.facts.specs.graph_format_crate.declared.Header.{Header}
use Rattle.facts.specs.graph_tables_crate.Tables.{header_in}
use Rattle.facts.specs.graph_crate.Loaded.{Loaded}
use Rattle.keep_record.proofs.Rows.{lines-length}
use Rattle.worklist.specs.Links.{partners_size}
use Rattle.next_stage.proofs.Forgetting.{modules_are, stage_linked}
use Rattle.next_stage.proofs.begin.Goals as goal

pub header_of-h-requires : goal.header_of-h-requires
header_of-h-requires c = c.requires.loaded.long

pub mark_kept-requires : goal.mark_kept-requires
mark_kept-requires c = record { loaded = c.requires.loaded; held = c.requires.working.held }

-- the table has a size
size_fits : (h : Header) (numbers tables : List ℕ) → Loaded numbers tables → h ≡ header_in numbers → partners_size h < 18446744073709551616
size_fits h numbers tables t e = rw e (omega (arith, t.few_modules, t.few_symbols))

pub firsts_at-firsts-requires : goal.firsts_at-firsts-requires
firsts_at-firsts-requires c = size_fits _ _ _ c.requires.loaded c.header_of-h.ensures

pub nexts_at-nexts-requires : goal.nexts_at-nexts-requires
nexts_at-nexts-requires c = size_fits _ _ _ c.requires.loaded c.header_of-h.ensures

pub forget_forwards-requires : goal.forget_forwards-requires
forget_forwards-requires c = omega (arith, c.requires.working.linked.long, c.nexts_at-nexts.ensures, modules_are _ _ c.header_of-h.ensures)

pub returns : goal.returns
returns c =
    let m = modules_are _ _ c.header_of-h.ensures in
    let f = c.forget_forwards.ensures in
    record {
      held = c.mark_kept.ensures;
      linked = stage_linked _ _ _ _ _ _ _ (c.firsts_at-firsts.ensures ∙ m) (c.nexts_at-nexts.ensures ∙ ap (λ (x : ℕ). 3 * x) m) (lines-length _ _) c.requires.working.linked f.0 f.1 f.2;
    }
