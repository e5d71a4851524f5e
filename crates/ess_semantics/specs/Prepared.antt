-- The statements of a specification as their meanings are taken: with lettings put in, and resolved.
use Rattle.std.specs.Prelude.{List, [], ◌∷◌}
use Rattle.ess_semantics.specs.Names.{Names}
use Rattle.ess_semantics.specs.Trees.{Stm, given, given_enum, let_ex, let_dom, let_enum, let_unnamed, needs, find, such_that, minimise, maximise}
use Rattle.ess_semantics.specs.Types.{Ty}
use Rattle.ess_semantics.specs.Lettings.{put_in, types_after}
use Rattle.ess_semantics.specs.Resolving.{resolve, resolve_dom}

-- The statement, resolved under the types of names.
abbrev pub resolve_stm : Stm → Names Ty → Stm
resolve_stm (given x d) g = given x (resolve_dom d g)
resolve_stm (given_enum t) g = given_enum t
resolve_stm (let_ex x e) g = let_ex x (resolve e g)
resolve_stm (let_dom x d) g = let_dom x (resolve_dom d g)
resolve_stm (let_enum t ns) g = let_enum t ns
resolve_stm (let_unnamed t e) g = let_unnamed t (resolve e g)
resolve_stm (needs e) g = needs (resolve e g)
resolve_stm (find x d) g = find x (resolve_dom d g)
resolve_stm (such_that e) g = such_that (resolve e g)
resolve_stm (minimise e) g = minimise (resolve e g)
resolve_stm (maximise e) g = maximise (resolve e g)

-- The statements with lettings put in, resolved, behind names of these types.
abbrev pub resolve_all : List Stm → Names Ty → List Stm
resolve_all [] g = []
resolve_all (s ∷ ss) g = resolve_stm s g ∷ resolve_all ss (types_after s g)

-- The statements with lettings put in, resolved. The lettings stay, so that the numbers of statements do.
abbrev pub prepared : List Stm → List Stm
prepared S = resolve_all (put_in S) []
