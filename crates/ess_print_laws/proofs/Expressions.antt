-- The printed tokens of a readable expression, and of a readable domain, are derived by the rules for exactly that tree, whatever
-- follows.
use Rattle.std.proofs.Common.{◌≡◌, true, false, ◌&&◌, ◌∷◌, pos, negsuc}
use Rattle.std.proofs.lemmas.Bool.{and_parts}
use Rattle.ess_semantics.specs.Trees.{Ex, Exs, number_ex, truth_ex, name_ex, node_ex, matrix_ex, comp_ex, cell_ex, seen_ex, no_exs, more_exs, Gens, no_gens, over, from, cond, Dom, bool_dom, int_dom, name_dom, tuple_dom, record_dom, matrix_dom, set_dom, mset_dom, function_dom, relation_dom, partition_dom, Doms, no_doms, more_doms}
use Rattle.ess_grammar.specs.Words.{bar, semicolon, close_square}
use Rattle.ess_grammar.specs.Grammar.{number_atom, true_atom, false_atom, name_atom, matrix_atom, comprehension_atom, bool_domain, name_domain}
use Rattle.ess_grammar.specs.Readable.{some_exs, some_gens, some_doms, several_doms, are_name_tokens, fit_domains, fit_marks, ReadableEx, ReadableExs, ReadableGens, ReadableDom, ReadableDoms}
use Rattle.ess_print_laws.specs.Pieces.{space, sign}
use Rattle.ess_print_laws.specs.Expressions.{dom_pieces, gens_pieces}
use Rattle.ess_print_laws.proofs.Derived.{Printed, Each, Inner, from-atom, list-reads, DomDerived, EachDom, EachGen}
use Rattle.ess_print_laws.proofs.Nodes.{node-printed}
use Rattle.ess_print_laws.proofs.Generators.{gens-derived}
use Rattle.ess_print_laws.proofs.Domains.{int-derived, tuple-derived, record-derived, matrix-derived, set-derived, mset-derived, partition-derived, relation-derived, function-derived}

matrix-printed : (es : Exs) (d : Dom) → some_exs es ≡ true → Each es → DomDerived d → Printed (matrix_ex es d)
matrix-printed no_exs d h k g = cc
matrix-printed (more_exs e es) d h k g = from-atom (λ us.
    matrix_atom (list-reads e es k.0 k.2 (sign semicolon ∷ space ∷ dom_pieces d (sign close_square ∷ us))).derivation (g (sign close_square ∷ us)))

comp-printed : (e : Ex) (gs : Gens) → Printed e → some_gens gs ≡ true → ReadableGens gs → EachGen gs → Printed (comp_ex e gs)
comp-printed e gs d h r k = from-atom (λ us.
    comprehension_atom (d.reads (space ∷ sign bar ∷ space ∷ gens_pieces gs (sign close_square ∷ us))).derivation (gens-derived gs h r k (sign close_square ∷ us)).derivation)

mutual
  -- An expression.
  pub ex-printed : (e : Ex) → ReadableEx e → Printed e
  ex-printed (number_ex (pos n)) h = from-atom (λ us. number_atom)
  ex-printed (number_ex (negsuc n)) h = cc
  ex-printed (truth_ex true) h = from-atom (λ us. true_atom)
  ex-printed (truth_ex false) h = from-atom (λ us. false_atom)
  ex-printed (name_ex a) h = from-atom (λ us. name_atom)
  ex-printed (node_ex b op es) h = node-printed b op es h (each-printed es h.2)
  ex-printed (matrix_ex es d) h = matrix-printed es d h.0 (each-printed es h.1) (dom-derived d h.2)
  ex-printed (comp_ex e gs) h = comp-printed e gs (ex-printed e h.0) h.1 h.2 (each-gen gs h.2)
  ex-printed (cell_ex b n es) h = absurd h
  ex-printed (seen_ex r d ns es) h = absurd h

  inner-printed : (e : Ex) → ReadableEx e → Inner e
  inner-printed (node_ex b op es) h = each-printed es h.2
  inner-printed e h = tt

  -- Several expressions.
  pub each-printed : (es : Exs) → ReadableExs es → Each es
  each-printed no_exs h = tt
  each-printed (more_exs e es) h = (ex-printed e h.0, inner-printed e h.0, each-printed es h.1)

  -- Generators and conditions.
  pub each-gen : (gs : Gens) → ReadableGens gs → EachGen gs
  each-gen no_gens h = tt
  each-gen (over p d gs) h = (dom-derived d h.1, each-gen gs h.2)
  each-gen (from p e gs) h = (ex-printed e h.1, each-gen gs h.2)
  each-gen (cond e gs) h = (ex-printed e h.0, each-gen gs h.1)

  -- A domain.
  pub dom-derived : (d : Dom) → ReadableDom d → DomDerived d
  dom-derived bool_dom h = λ us. bool_domain
  dom-derived (int_dom rs es) h = int-derived rs es h.0 (each-printed es h.1)
  dom-derived (name_dom a) h = λ us. name_domain
  dom-derived (tuple_dom ds) h = tuple-derived ds h.0 (each-dom ds h.1)
  dom-derived (record_dom ns ds) h =
      let parts = and_parts (some_doms ds) (are_name_tokens ns && fit_domains ns ds) h.0 in
      record-derived ns ds parts.0 (and_parts (are_name_tokens ns) (fit_domains ns ds) parts.1).1 h.1 (each-dom ds h.2)
  dom-derived (matrix_dom ds d) h = matrix-derived ds d h.0 (each-dom ds h.1) (dom-derived d h.2)
  dom-derived (set_dom ms es d) h = set-derived ms es d h.0 (each-printed es h.1) (dom-derived d h.2)
  dom-derived (mset_dom ms es d) h = mset-derived ms es d h.0 (each-printed es h.1) (dom-derived d h.2)
  dom-derived (function_dom ms es c d) h = function-derived ms es c d h.0 (each-printed es h.1) (dom-derived c h.2) (dom-derived d h.3)
  dom-derived (relation_dom ms es ds) h =
      let parts = and_parts (fit_marks ms es) (several_doms ds) h.0 in
      relation-derived ms es ds parts.0 parts.1 (each-printed es h.1) (each-dom ds h.2)
  dom-derived (partition_dom ms es d) h = partition-derived ms es d h.0 (each-printed es h.1) (dom-derived d h.2)

  -- Several domains.
  pub each-dom : (ds : Doms) → ReadableDoms ds → EachDom ds
  each-dom no_doms h = tt
  each-dom (more_doms d ds) h = (dom-derived d h.0, each-dom ds h.1)
