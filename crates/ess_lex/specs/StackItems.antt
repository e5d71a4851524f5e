-- What the code's stack stands for.
use Rattle.std.specs.Prelude.{List, take, reverse}
use Rattle.ess_grammar.specs.Load.{Item}
use Rattle.ess_lex.specs.Stacks.{items_from}
use Rattle.ess_lex.specs.declared.stack.Stack.{Stack}

-- the innermost first
abbrev pub items_of : Stack → List Item
items_of stack = items_from (reverse (take stack.brackets stack.below)) stack.height
