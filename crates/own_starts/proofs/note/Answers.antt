use native.Mathlib.Omega.{arith}
use Rattle.own_starts.proofs.Noting.{noted_few, parts_small, note-hit, note-miss}
use mathlib.Core.Path.{◌∙◌, sym}
use Rattle.own_starts.proofs.note.Goals as goal

pub returns-then-is_marked : goal.returns-then-is_marked
returns-then-is_marked c = note-hit _ _ _ _ _ (sym c.is_marked.ensures ∙ c.if-is_marked.true)

pub write_triple-requires : goal.write_triple-requires
write_triple-requires c = let p = parts_small c.requires.prepared.loaded c.args.fact c.requires.good in (omega (arith, noted_few c.requires.prepared.loaded _ _ _ c.requires.noted), p.0, p.1)

pub overflow_add-result : goal.overflow_add-result
overflow_add-result c = omega (arith, noted_few c.requires.prepared.loaded _ _ _ c.requires.noted)

pub returns : goal.returns
returns c = note-miss _ _ _ _ _ _ _ c.requires.good c.mark.ensures c.write_triple.ensures c.write_triple.auto.out (sym c.is_marked.ensures ∙ c.if-is_marked.false)
