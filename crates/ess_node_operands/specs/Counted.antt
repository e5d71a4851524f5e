-- Operands by their number, as the operands that they are.
use Rattle.std.specs.Prelude.{List, [], ◌∷◌}
use Rattle.ess_core_nodes.specs.declared.nodes.Node.{Node}
use Rattle.ess_node_operands.specs.declared.operands.Operands.{Operands}

abbrev pub operands_of : Operands → List Node
operands_of Operands.None = []
operands_of (Operands.One a) = a.now ∷ []
operands_of (Operands.Two a b) = a.now ∷ b.now ∷ []
operands_of (Operands.More a b c rest) = a.now ∷ b.now ∷ c.now ∷ rest.now
