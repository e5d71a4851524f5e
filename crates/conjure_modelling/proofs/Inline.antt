-- Statements and representations are printed as tokens with spaces between, on one line.
use Rattle.std.proofs.Common.{refl, true, false, List, [], ◌∷◌}
use Rattle.ess_semantics.specs.Trees.{Repr}
use Rattle.ess_semantics.specs.Trees.{Reprs, repr, no_reprs, more_reprs, Ex, Exs, number_ex, truth_ex, name_ex, node_ex, matrix_ex}
use Rattle.ess_semantics.specs.Trees.{comp_ex, cell_ex, seen_ex, no_exs, more_exs, Gens, no_gens, over, from, cond, Dom, bool_dom}
use Rattle.ess_semantics.specs.Trees.{int_dom, name_dom, tuple_dom, record_dom, matrix_dom, set_dom, mset_dom, function_dom, relation_dom}
use Rattle.ess_semantics.specs.Trees.{partition_dom, Doms, no_doms, more_doms, Stm, given, given_enum, let_ex, let_dom, let_enum}
use Rattle.ess_semantics.specs.Trees.{let_unnamed, needs, find, such_that, minimise, maximise}
use Rattle.ess_print_laws.specs.Pieces.{Printer}
use Rattle.ess_print_laws.specs.Brackets.{is_operators, begins_as_pattern}
use Rattle.ess_print_laws.specs.Parts.{name_printers}
use Rattle.ess_print_laws.specs.Expressions.{wholes}
use Rattle.ess_print_laws.specs.Expressions.{field_domains, ex_pieces, pair_pieces, operands, gens_pieces}
use Rattle.ess_print_laws.specs.Expressions.{dom_pieces, domains}
use Rattle.ess_print_laws.specs.Statements.{stm_pieces, children_pieces, repr_pieces, children}
use Rattle.conjure_modelling.proofs.InlineParts.{AllInline, nothing, front, one, then, listed-inline, commas-inline, within-inline}
use Rattle.conjure_modelling.proofs.InlineParts.{enclosed, bracketed-inline, number-inline, tuple-inline, names-inline, Operands}
use Rattle.conjure_modelling.proofs.InlineParts.{wholes-inline, maps-inline, index-inline, node-inline, int-inline, attributes-inline}
use Rattle.conjure_modelling.proofs.InlineParts.{argument-inline, field-domains-inline, items-inline, pat-inline, Inline}

mutual
  ex-inline : (e : Ex) → Inline (ex_pieces e)
  ex-inline (number_ex n) = number-inline n
  ex-inline (truth_ex true) = (one refl)
  ex-inline (truth_ex false) = (one refl)
  ex-inline (name_ex a) = (one refl)
  ex-inline (node_ex b op es) = node-inline op es (operands es) (operands-inline es)
  ex-inline (matrix_ex es d) =
      front refl (then (commas-inline (wholes (operands es)) (wholes-inline (operands es) (operands-inline es))) (front refl
      (front refl (then (dom-inline d) (one refl)))))
  ex-inline (comp_ex e gs) = front refl (then (ex-inline e) (front refl (front refl (front refl (then (gens-inline gs) (one refl))))))
  ex-inline (cell_ex b a es) = front refl (index-inline (operands es) (operands-inline es))
  ex-inline (seen_ex r d ns es) = nothing

  pair-inline : (e : Ex) → Inline (pair_pieces e)
  pair-inline (node_ex b op es) = maps-inline (operands es) (operands-inline es)
  pair-inline e = nothing

  operands-inline : (es : Exs) → Operands (operands es)
  operands-inline no_exs = tt
  operands-inline (more_exs e es) = (
    record {
      whole =
          ex-inline e;
      part = bracketed-inline (is_operators e) (ex_pieces e) (ex-inline e);
      pair = pair-inline e;
    },
    operands-inline es,
  )

  gens-inline : (gs : Gens) → Inline (gens_pieces gs)
  gens-inline no_gens = nothing
  gens-inline (over p d gs) =
      then (pat-inline p) (front refl (front refl (front refl (then (dom-inline d) (then (items-inline gs) (gens-inline gs))))))
  gens-inline (from p e gs) =
      then (pat-inline p) (front refl (front refl (front refl (then (ex-inline e) (then (items-inline gs) (gens-inline gs))))))
  gens-inline (cond e gs) =
      then (bracketed-inline (begins_as_pattern e gs) (ex_pieces e) (ex-inline e)) (then (items-inline gs) (gens-inline gs))

  dom-inline : (d : Dom) → Inline (dom_pieces d)
  dom-inline bool_dom = (one refl)
  dom-inline (int_dom rs es) = front refl (int-inline rs (operands es) (operands-inline es))
  dom-inline (name_dom a) = (one refl)
  dom-inline (tuple_dom ds) = tuple-inline (domains ds) (domains-inline ds)
  dom-inline (record_dom ns ds) =
      front refl (front refl (enclosed _ _ (field_domains ns (domains ds)) (field-domains-inline ns (domains ds) (domains-inline ds))))
  dom-inline (matrix_dom ds d) =
      front refl (front refl (front refl (front refl (front refl (front refl (then (enclosed _ _ (domains ds) (domains-inline ds))
      (front refl (front refl (front refl (dom-inline d))))))))))
  dom-inline (set_dom ms es d) =
      front refl (then (attributes-inline ms (operands es) (operands-inline es)) (front refl (front refl (front refl (dom-inline d)))))
  dom-inline (mset_dom ms es d) =
      front refl (then (attributes-inline ms (operands es) (operands-inline es)) (front refl (front refl (front refl (dom-inline d)))))
  dom-inline (function_dom ms es c d) =
      front refl (then (attributes-inline ms (operands es) (operands-inline es)) (front refl (then (argument-inline ms c
      (dom_pieces c) (dom-inline c)) (front refl (front refl (front refl (dom-inline d)))))))
  dom-inline (relation_dom ms es ds) =
      front refl (then (attributes-inline ms (operands es) (operands-inline es)) (front refl (front refl (front refl (within-inline
      (listed-inline (domains ds) (front refl (front refl (one refl))) (domains-inline ds)))))))
  dom-inline (partition_dom ms es d) =
      front refl (then (attributes-inline ms (operands es) (operands-inline es)) (front refl (front refl (front refl (dom-inline d)))))

  domains-inline : (ds : Doms) → AllInline (domains ds)
  domains-inline no_doms = tt
  domains-inline (more_doms d ds) = (dom-inline d, domains-inline ds)

-- ---- statements and representations

-- A statement.
pub stm-inline : (s : Stm) → Inline (stm_pieces s)
stm-inline (given a d) = front refl (front refl (front refl (front refl (front refl (front refl (dom-inline d))))))
stm-inline (given_enum a) =
    front refl (front refl (front refl (front refl (front refl (front refl (front refl (front refl (one refl))))))))
stm-inline (let_ex a e) = front refl (front refl (front refl (front refl (front refl (front refl (ex-inline e))))))
stm-inline (let_dom a d) =
    front refl (front refl (front refl (front refl (front refl (front refl (front refl (front refl (dom-inline d))))))))
stm-inline (let_enum a ns) =
    front refl (front refl (front refl (front refl (front refl (front refl (front refl (front refl (front refl (front refl (front refl
    (front refl (enclosed _ _ (name_printers ns) (names-inline ns)))))))))))))
stm-inline (let_unnamed a e) =
    front refl (front refl (front refl (front refl (front refl (front refl (front refl (front refl (front refl (front refl (front refl
    (front refl (front refl (front refl (ex-inline e))))))))))))))
stm-inline (needs e) = front refl (front refl (ex-inline e))
stm-inline (find a d) = front refl (front refl (front refl (front refl (front refl (front refl (dom-inline d))))))
stm-inline (such_that e) = front refl (front refl (front refl (front refl (ex-inline e))))
stm-inline (minimise e) = front refl (front refl (ex-inline e))
stm-inline (maximise e) = front refl (front refl (ex-inline e))

children-inline : (ps : List Printer) → AllInline ps → Inline (children_pieces ps)
children-inline [] h = nothing
children-inline (p ∷ ps) h = enclosed _ _ (p ∷ ps) h

mutual
  -- A representation.
  pub repr-inline : (r : Repr) → Inline (repr_pieces r)
  repr-inline (repr k rs) = front refl (children-inline (children rs) (each-inline rs))

  each-inline : (rs : Reprs) → AllInline (children rs)
  each-inline no_reprs = tt
  each-inline (more_reprs r rs) = (repr-inline r, each-inline rs)
