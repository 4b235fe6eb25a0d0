-- What the bodies of the Rust's engine ask for is what the keep rules give, in every world: all together.
use Rattle.determine_side_effects.specs.graph_crate.Check.{Graph}
use Rattle.rust_engine.proofs.Handling.{Links}
use Rattle.rust_engine.proofs.Linking.{statement_from, statement_to}
use Rattle.rust_engine.proofs.OfModules.{module_from, module_to}
use Rattle.rust_engine.proofs.OfUses.{symbol_from, symbol_to}

pub links : (g : Graph) → Links g
links g =
    record {
      module_from = module_from g;
      module_to = module_to g;
      statement_from = statement_from g;
      statement_to = statement_to g;
      symbol_from = symbol_from g;
      symbol_to = symbol_to g;
    }
