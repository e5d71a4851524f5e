-- Forms in worked examples.
use Rattle.std.proofs.Common.{◌≡◌, refl, true, false, [], pos}
use Rattle.ess_semantics.specs.Values.{number, truth, node, nil, cons, pair, matrix, a_tuple, a_set, a_mset, a_function}
use Rattle.ess_semantics.specs.Domains.{booleans, integers, sets, msets, tuples, functions, matrices, no_domains, more_domains}
use Rattle.ess_translate_positions_laws.specs.Forms.{has_form}

-- A set of truth values has the form of one, also where it isn't a member; a multiset hasn't.
of-set : has_form (sets [] booleans) (node a_set (cons (truth true) (cons (truth true) nil))) ≡ true
of-set = refl

of-mset : has_form (sets [] booleans) (node a_mset (cons (truth true) nil)) ≡ false
of-mset = refl

-- A number stands for anything that a cell may hold.
of-atom : has_form booleans (number (pos 7)) ≡ true
of-atom = refl

-- A tuple has as many components as its domain.
of-tuple : has_form (tuples (more_domains booleans (more_domains (integers []) no_domains))) (node a_tuple (cons (truth true) nil)) ≡ false
of-tuple = refl

-- A function is its pairs; a member that is none isn't of the form.
of-function : has_form (functions [] (integers []) booleans) (node a_function (cons (pair (number (pos 1)) (truth true)) nil)) ≡ true
of-function = refl

of-no-pair : has_form (functions [] (integers []) booleans) (node a_function (cons (number (pos 1)) nil)) ≡ false
of-no-pair = refl

-- A matrix over one index domain.
of-matrix : has_form (matrices (more_domains (integers []) no_domains) (sets [] booleans)) (matrix (cons (number (pos 1)) nil) (cons (node a_set nil) nil)) ≡ true
of-matrix = refl
