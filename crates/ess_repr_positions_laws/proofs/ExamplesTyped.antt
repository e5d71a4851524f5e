-- Worked examples of types put back part by part.
use Rattle.std.proofs.Common.{◌≡◌, refl, [], ◌∷◌, pos, Some, None}
use Rattle.ess_semantics.specs.Values.{number, item, node, cons, nil, a_set, a_mset, a_function, pair, matrix, tuple}
use Rattle.ess_semantics.specs.Domains.{Domain, named, sets, functions, matrices, tuples, between, no_domains, more_domains}
use Rattle.ess_repr_positions_laws.specs.TypedParts.{typed}

-- A type `T` of three values, here named by one byte.
abbrev three : Domain
three = named (84 ∷ []) 3

is-set : typed (sets [] three) (node a_set (cons (number (pos 1)) (cons (number (pos 3)) nil)))
    ≡ Some (node a_set (cons (item (84 ∷ []) 1) (cons (item (84 ∷ []) 3) nil)))
is-set = refl

-- a position outside the type
is-outside : typed (sets [] three) (node a_set (cons (number (pos 4)) nil)) ≡ None
is-outside = refl

-- a value of another kind
is-other-kind : typed (sets [] three) (node a_mset (cons (number (pos 1)) nil)) ≡ None
is-other-kind = refl

is-function : typed (functions [] three (between (pos 0) (pos 9))) (node a_function (cons (pair (number (pos 2)) (number (pos 7))) nil))
    ≡ Some (node a_function (cons (pair (item (84 ∷ []) 2) (number (pos 7))) nil))
is-function = refl

is-matrix : typed (matrices (more_domains three no_domains) three) (matrix (cons (number (pos 1)) nil) (cons (number (pos 2)) nil))
    ≡ Some (matrix (cons (item (84 ∷ []) 1) nil) (cons (item (84 ∷ []) 2) nil))
is-matrix = refl

-- a component too many
is-too-long : typed (tuples (more_domains three no_domains)) (tuple (cons (number (pos 1)) (cons (number (pos 2)) nil))) ≡ None
is-too-long = refl
