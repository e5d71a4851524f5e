-- Constraints and objectives change nothing of what stands behind them: of lettings, types, names and plans.
use Rattle.std.proofs.Common.{◌≡◌, refl, ap, ◌∙◌, List, [], ◌∷◌, ◌++◌, map, filter}
use Rattle.ess_semantics.specs.Lists.{append_all}
use Rattle.ess_semantics.specs.Values.{Text}
use Rattle.ess_semantics.specs.Names.{Names, keys}
use Rattle.ess_semantics.specs.Types.{Ty}
use Rattle.ess_semantics.specs.Trees.{Stm, given, given_enum, let_ex, let_dom, let_enum, let_unnamed, needs, find, such_that, minimise, maximise}
use Rattle.ess_semantics.specs.Lettings.{Lettings, no_lettings, put_stm, put_all, put_in, lettings_after, types_after}
use Rattle.ess_semantics.specs.Prepared.{resolve_stm, resolve_all, prepared}
use Rattle.ess_semantics.specs.Judgements.{declares}
use Rattle.ess_semantics.specs.Plans.{Options, Plan, domain_of_stm, plans_of_stm, names_of_plans, plans_from}
use Rattle.ess_semantics.specs.ModelTrees.{in_header}

-- Lettings are put into the statements of the header as into all.
put-header : (ss : List Stm) (l : Lettings) (g : Names Ty) → put_all (filter in_header ss) l g ≡ filter in_header (put_all ss l g)
put-header [] l g = refl
put-header (given x d ∷ ss) l g = let t =
    put_stm (given x d) l g in ap (λ us. t ∷ us) (put-header ss (lettings_after t l) (types_after t g))
put-header (given_enum a ∷ ss) l g = let t =
    put_stm (given_enum a) l g in ap (λ us. t ∷ us) (put-header ss (lettings_after t l) (types_after t g))
put-header (let_ex x e ∷ ss) l g = let t =
    put_stm (let_ex x e) l g in ap (λ us. t ∷ us) (put-header ss (lettings_after t l) (types_after t g))
put-header (let_dom x d ∷ ss) l g = let t =
    put_stm (let_dom x d) l g in ap (λ us. t ∷ us) (put-header ss (lettings_after t l) (types_after t g))
put-header (let_enum a ns ∷ ss) l g = let t =
    put_stm (let_enum a ns) l g in ap (λ us. t ∷ us) (put-header ss (lettings_after t l) (types_after t g))
put-header (let_unnamed a e ∷ ss) l g = let t =
    put_stm (let_unnamed a e) l g in ap (λ us. t ∷ us) (put-header ss (lettings_after t l) (types_after t g))
put-header (needs e ∷ ss) l g = let t = put_stm (needs e) l g in ap (λ us. t ∷ us) (put-header ss (lettings_after t l) (types_after t g))
put-header (find x d ∷ ss) l g = let t = put_stm (find x d) l g in ap (λ us. t ∷ us) (put-header ss (lettings_after t l) (types_after t g))
put-header (such_that e ∷ ss) l g = put-header ss l g
put-header (minimise e ∷ ss) l g = put-header ss l g
put-header (maximise e ∷ ss) l g = put-header ss l g

-- They are resolved as among all.
resolve-header : (ss : List Stm) (g : Names Ty) → resolve_all (filter in_header ss) g ≡ filter in_header (resolve_all ss g)
resolve-header [] g = refl
resolve-header (given x d ∷ ss) g = ap (λ us. resolve_stm (given x d) g ∷ us) (resolve-header ss (types_after (given x d) g))
resolve-header (given_enum a ∷ ss) g = ap (λ us. given_enum a ∷ us) (resolve-header ss g)
resolve-header (let_ex x e ∷ ss) g = ap (λ us. resolve_stm (let_ex x e) g ∷ us) (resolve-header ss (types_after (let_ex x e) g))
resolve-header (let_dom x d ∷ ss) g = ap (λ us. resolve_stm (let_dom x d) g ∷ us) (resolve-header ss g)
resolve-header (let_enum a ns ∷ ss) g = ap (λ us. let_enum a ns ∷ us) (resolve-header ss (types_after (let_enum a ns) g))
resolve-header (let_unnamed a e ∷ ss) g = ap (λ us. resolve_stm (let_unnamed a e) g ∷ us) (resolve-header ss g)
resolve-header (needs e ∷ ss) g = ap (λ us. resolve_stm (needs e) g ∷ us) (resolve-header ss g)
resolve-header (find x d ∷ ss) g = ap (λ us. resolve_stm (find x d) g ∷ us) (resolve-header ss (types_after (find x d) g))
resolve-header (such_that e ∷ ss) g = resolve-header ss g
resolve-header (minimise e ∷ ss) g = resolve-header ss g
resolve-header (maximise e ∷ ss) g = resolve-header ss g

-- The statements of the header are prepared as among all.
pub prepared-header : (S : List Stm) → prepared (filter in_header S) ≡ filter in_header (prepared S)
prepared-header S = ap (λ ss. resolve_all ss []) (put-header S no_lettings []) ∙ resolve-header (put_in S) []

-- They have all givens and finds with a domain.
pub domains-header : (ss : List Stm) → append_all (map domain_of_stm (filter in_header ss)) ≡ append_all (map domain_of_stm ss)
domains-header [] = refl
domains-header (given x d ∷ ss) = ap (λ xs. (x, d) ∷ xs) (domains-header ss)
domains-header (given_enum a ∷ ss) = domains-header ss
domains-header (let_ex x e ∷ ss) = domains-header ss
domains-header (let_dom x d ∷ ss) = domains-header ss
domains-header (let_enum a ns ∷ ss) = domains-header ss
domains-header (let_unnamed a e ∷ ss) = domains-header ss
domains-header (needs e ∷ ss) = domains-header ss
domains-header (find x d ∷ ss) = ap (λ xs. (x, d) ∷ xs) (domains-header ss)
domains-header (such_that e ∷ ss) = domains-header ss
domains-header (minimise e ∷ ss) = domains-header ss
domains-header (maximise e ∷ ss) = domains-header ss

-- They declare all names.
pub declares-header : (ss : List Stm) → append_all (map declares (filter in_header ss)) ≡ append_all (map declares ss)
declares-header [] = refl
declares-header (given x d ∷ ss) = ap (λ xs. x ∷ xs) (declares-header ss)
declares-header (given_enum a ∷ ss) = ap (λ xs. a ∷ xs) (declares-header ss)
declares-header (let_ex x e ∷ ss) = ap (λ xs. x ∷ xs) (declares-header ss)
declares-header (let_dom x d ∷ ss) = ap (λ xs. x ∷ xs) (declares-header ss)
declares-header (let_enum a ns ∷ ss) = ap (λ xs. (a ∷ ns) ++ xs) (declares-header ss)
declares-header (let_unnamed a e ∷ ss) = ap (λ xs. a ∷ xs) (declares-header ss)
declares-header (needs e ∷ ss) = declares-header ss
declares-header (find x d ∷ ss) = ap (λ xs. x ∷ xs) (declares-header ss)
declares-header (such_that e ∷ ss) = declares-header ss
declares-header (minimise e ∷ ss) = declares-header ss
declares-header (maximise e ∷ ss) = declares-header ss

-- The plans behind those of a statement.
plans-behind : (s : Stm) (ss us : List Stm) (o : Options) (declared done : List Text) →
    ((taken : List Text) → plans_from ss o declared taken ≡ plans_from us o declared taken) →
    plans_from (s ∷ ss) o declared done ≡ plans_from (s ∷ us) o declared done
plans-behind s ss us o declared done f =
    let ps : List Plan = plans_of_stm s o declared done in ap (λ qs. ps ++ qs) (f (keys (names_of_plans ps) ++ done))

-- They have all plans.
pub plans-header : (ss : List Stm) (o : Options) (declared done : List Text) →
    plans_from (filter in_header ss) o declared done ≡ plans_from ss o declared done
plans-header [] o declared done = refl
plans-header (given x d ∷ ss) o declared done =
    plans-behind (given x d) (filter in_header ss) ss o declared done (λ t. plans-header ss o declared t)
plans-header (given_enum a ∷ ss) o declared done =
    plans-behind (given_enum a) (filter in_header ss) ss o declared done (λ t. plans-header ss o declared t)
plans-header (let_ex x e ∷ ss) o declared done = plans-header ss o declared done
plans-header (let_dom x d ∷ ss) o declared done = plans-header ss o declared done
plans-header (let_enum a ns ∷ ss) o declared done = plans-header ss o declared done
plans-header (let_unnamed a e ∷ ss) o declared done = plans-header ss o declared done
plans-header (needs e ∷ ss) o declared done = plans-header ss o declared done
plans-header (find x d ∷ ss) o declared done =
    plans-behind (find x d) (filter in_header ss) ss o declared done (λ t. plans-header ss o declared t)
plans-header (such_that e ∷ ss) o declared done = plans-header ss o declared done
plans-header (minimise e ∷ ss) o declared done = plans-header ss o declared done
plans-header (maximise e ∷ ss) o declared done = plans-header ss o declared done
