use Prim.Native.Nat.{◌-◌}
use Rattle.bit_row.proofs.Size.{bytes_at_most}
use Rattle.determine_side_effects.specs.graph_format_crate.declared.Header.{Header}
use Rattle.answer_rows.proofs.FirstBytes.{some_modules, before_few, last_module, last_bytes}
use native.Mathlib.Omega.{arith}
use mathlib.Core.Path.{ap}
use Rattle.answer_rows.proofs.statement_bytes.Goals as goal

pub overflow_sub-last : goal.overflow_sub-last
overflow_sub-last c = omega (arith, some_modules c.requires.0, ap (λ (h : Header). h.modules) c.header_of-h.ensures)

pub first_byte_of-requires : goal.first_byte_of-requires
first_byte_of-requires c = record { first_bytes = c.requires.1; m_bound = last_module c.requires.0 _ c.header_of-h.ensures }

pub statement_count-requires : goal.statement_count-requires
statement_count-requires c = record { loaded = c.requires.0; m_bound = last_module c.requires.0 _ c.header_of-h.ensures }

pub overflow_add-result : goal.overflow_add-result
overflow_add-result c =
    let l = last_module c.requires.0 _ c.header_of-h.ensures in
    let few = before_few c.requires.0 (c.header_of-h.result.modules - 1) (omega (arith, l)) in
    record { fits = omega (arith, few, l, c.requires.0.few_modules, c.first_byte_of.ensures, c.bytes_for.ensures, bytes_at_most c.statement_count.result, c.statement_count.ensures.1) }

pub returns : goal.returns
returns c = last_bytes c.requires.0 _ c.header_of-h.ensures _ _ _ c.first_byte_of.ensures c.statement_count.ensures.0 c.bytes_for.ensures
