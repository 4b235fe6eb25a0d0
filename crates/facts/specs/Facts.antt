-- Facts and their numbers (docs/RULES.md, Facts).
use Rattle.std.specs.Prelude.{ℕ, ◌+◌, ◌*◌, ◌-◌, ◌<◌, ◌≡◌, true, false, eqb, length}
use Rattle.graph_access.specs.graph_crate.Check.{Graph}
use Rattle.graph_access.specs.graph_tables_crate.Tables.{first_of}
use Rattle.facts.specs.declared.Fact.{Fact}
use Rattle.facts.specs.declared.Fact.TheVariants.{Module, Statement, Use, CheckedUse, Forward, Bailout}
use Rattle.graph_access.specs.Words.{statement_list, normal}

-- The facts of plain numbers.
abbrev pub module_fact : ℕ → Fact
module_fact m = Module (record { 0 = m })

abbrev pub statement_fact : ℕ → ℕ → Fact
statement_fact m i = Statement (record { 0 = m }) (record { 0 = i })

abbrev pub use_fact : ℕ → ℕ → Fact
use_fact s x = Use (record { 0 = s }) (record { bits = x })

abbrev pub checked_fact : ℕ → ℕ → Fact
checked_fact s x = CheckedUse (record { 0 = s }) (record { bits = x })

abbrev pub forward_fact : ℕ → Fact
forward_fact s = Forward (record { 0 = s })

abbrev pub bailout_fact : ℕ → Fact
bailout_fact m = Bailout (record { 0 = m })

-- a fact as three numbers: its kind and its two parts, 0 for an unused one
abbrev pub kind_of : Fact → ℕ
kind_of (Module m) = 1
kind_of (Statement m i) = 2
kind_of (Use s x) = 3
kind_of (CheckedUse s x) = 4
kind_of (Forward s) = 5
kind_of (Bailout m) = 6

abbrev pub first_part : Fact → ℕ
first_part (Module m) = m.0
first_part (Statement m i) = m.0
first_part (Use s x) = s.0
first_part (CheckedUse s x) = s.0
first_part (Forward s) = s.0
first_part (Bailout m) = m.0

abbrev pub second_part : Fact → ℕ
second_part (Module m) = 0
second_part (Statement m i) = i.0
second_part (Use s x) = x.bits
second_part (CheckedUse s x) = x.bits
second_part (Forward s) = 0
second_part (Bailout m) = 0

-- and back: the fact of such numbers, where the kind is one
unfoldable pub fact_of : ℕ → ℕ → ℕ → Fact
fact_of k a b =
    elim (eqb k 1) [
      | true ↦ module_fact a
      | false ↦ elim (eqb k 2) [
        | true ↦ statement_fact a b
        | false ↦ elim (eqb k 3) [
          | true ↦ use_fact a b
          | false ↦ elim (eqb k 4) [ true ↦ checked_fact a b | false ↦ elim (eqb k 5) [ true ↦ forward_fact a | false ↦ bailout_fact a ] ]
        ]
      ]
    ]

-- the indexes and the reason of a fact are within their kinds, and only normal modules are kept
abbrev pub Good : Graph → Fact → Type 0
Good g (Module m) = (m.0 < g.header.modules) × (normal g m.0 ≡ true)
Good g (Statement m i) = (m.0 < g.header.modules) × (i.0 < length (statement_list g m.0))
Good g (Use s x) = (s.0 < g.header.symbols) × (0 < x.bits) × (x.bits < 32)
Good g (CheckedUse s x) = (s.0 < g.header.symbols) × (0 < x.bits) × (x.bits < 32)
Good g (Forward s) = s.0 < g.header.symbols
Good g (Bailout m) = m.0 < g.header.modules

-- the number of a fact's mark (docs/OPERATIONS.md, Marks), and how many there are
unfoldable pub mark_of : Graph → Fact → ℕ
mark_of g (Module m) = m.0
mark_of g (Bailout m) = g.header.modules + m.0
mark_of g (Statement m i) = 2 * g.header.modules + (first_of g.modules m.0 + i.0)
mark_of g (Forward s) = 2 * g.header.modules + g.header.statements + s.0
mark_of g (Use s x) = 2 * g.header.modules + g.header.statements + g.header.symbols + (31 * s.0 + x.bits - 1)
mark_of g (CheckedUse s x) = 2 * g.header.modules + g.header.statements + 32 * g.header.symbols + (31 * s.0 + x.bits - 1)

unfoldable pub mark_count : Graph → ℕ
mark_count g = 2 * g.header.modules + g.header.statements + 63 * g.header.symbols
