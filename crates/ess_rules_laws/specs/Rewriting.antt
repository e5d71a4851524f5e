-- Rewriting by a set of rules: any number of them, one after the other, each at any part of the tree that the ones before
-- left.
use Rattle.ess_semantics.specs.Names.{Names}
use Rattle.ess_semantics.specs.Trees.{Ex}
use Rattle.ess_semantics.specs.Types.{Ty}
use Rattle.ess_semantics.specs.Meaning.{Env}
use Rattle.ess_semantics.specs.Contexts.{In, fill}
use Rattle.ess_semantics.specs.NamesAt.{names_at}
use Rattle.ess_semantics.specs.StaysAt.{StaysAt}

-- P is what the rules count on, R g are the rules at a place where names have the types g.
module _ (P : Names Ty → Env → Type 0) (R : Names Ty → Ex → Ex → Type 0) where
  -- The second tree comes from the first one by the rules, where the names in scope have these types.
  pub data Rewritten : Names Ty → Ex → Ex → Type 0 where
    as_it_was : {g : Names Ty} {e : Ex} → Rewritten g e e
    rewritten_at : {g : Names Ty} {a b e : Ex} (c : In) → StaysAt P c g → R (names_at c g) a b → Rewritten g (fill c b) e → Rewritten g (fill c a) e
