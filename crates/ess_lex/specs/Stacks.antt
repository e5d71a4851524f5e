-- The items under way, as the code keeps them.
use Rattle.std.specs.Prelude.{ℕ, suc, ◌-◌, Bool, true, ◌&&◌, List, [], ◌∷◌, ◌++◌, replicate, nat_lt}
use Rattle.ess_grammar.specs.Load.{Item, bracket, plain, closed, down_to_bracket, opened}
use Rattle.ess_lex.specs.declared.stack.Effect.{Effect}

-- From how many items stand below each open bracket, the innermost first, and how many there are at all.
abbrev pub items_from : List ℕ → ℕ → List Item
items_from [] height = replicate height plain
items_from (b ∷ below) height = replicate (height - suc b) plain ++ bracket ∷ items_from below b

-- each number is below the one before it
abbrev pub falls : List ℕ → ℕ → Bool
falls [] height = true
falls (b ∷ below) height = nat_lt b height && falls below b

-- what a token's effect does; the flag says that `)` or `]` stands directly before it
abbrev pub done_by : Effect → Bool → List Item → List Item
done_by Effect.OpenOrApply b items = opened b items
done_by Effect.Open b items = bracket ∷ items
done_by Effect.Close b items = closed items
done_by Effect.Push b items = plain ∷ items
done_by Effect.EndItem b items = down_to_bracket items
done_by Effect.Nothing b items = items
