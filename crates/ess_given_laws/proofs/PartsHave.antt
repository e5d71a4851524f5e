-- Parts of trees that are replaced, terms that are put in for names, and more generators, where each part has what is wanted of it.
use Rattle.std.proofs.Common.{Bool, true, false, if◌then◌else◌}
use Rattle.std.specs.Prelude.{IsTrue}
use Rattle.ess_semantics.specs.Values.{Text}
use Rattle.ess_semantics.specs.Order.{same_text}
use Rattle.ess_semantics.specs.Trees.{Pat, Ex, Exs, number_ex, truth_ex, name_ex, node_ex, matrix_ex, comp_ex, cell_ex, seen_ex, no_exs, more_exs, Gens, no_gens, over, from, cond, Dom}
use Rattle.ess_semantics.specs.Substitution.{substitute, substitute_exs, substitute_gens, substitute_dom, for_name}
use Rattle.ess_semantics.specs.Contexts.{In, Ins, InGens, InDom, hole, in_operand, in_item, in_index_domain, in_body, in_generators, in_cell_index, in_view_domain, in_view_index, in_first, in_later, in_generator_domain, behind_over, in_source, behind_from, in_condition, behind_condition, fill, fill_exs, fill_gens, fill_dom}
use Rattle.ess_rules_laws.specs.SpliceRules.{append_gens}
use Rattle.ess_given_laws.specs.PartsHave.{Wanted, PartsHave, AllHave, GensHave}

-- What is asked where h is put in for the name y: h has it, and domains and sources keep what they have.
pub record Puts (w : Wanted) (y : Text) (h : Ex) : Type 0 where
  pub item : PartsHave w h
  pub in_dom : (d : Dom) → IsTrue (w.dom d) → IsTrue (w.dom (substitute_dom (for_name y h) d))
  pub in_source : (p : Pat) (k : Ex) → IsTrue (w.draws p k) → IsTrue (w.draws p (substitute (for_name y h) k))

module _ (w : Wanted) where
  -- ---- a part that is replaced

  module _ (a b : Ex) (k : PartsHave w a → PartsHave w b)
      (in_dom : (c : InDom) → IsTrue (w.dom (fill_dom c a)) → IsTrue (w.dom (fill_dom c b)))
      (in_draws : (p : Pat) (c : In) → IsTrue (w.draws p (fill c a)) → IsTrue (w.draws p (fill c b))) where
    mutual
      pub part-has : (c : In) → PartsHave w (fill c a) → PartsHave w (fill c b)
      part-has hole h = k h
      part-has (in_operand t op c) h = exs-has c h
      part-has (in_item c d) h = (exs-has c h.0, h.1)
      part-has (in_index_domain es c) h = (h.0, in_dom c h.1)
      part-has (in_body c gs) h = (part-has c h.0, h.1)
      part-has (in_generators x c) h = (h.0, gens-has c h.1)
      part-has (in_cell_index t n c) h = (h.0, exs-has c h.1)
      part-has (in_view_domain r c ns es) h = (h.0, in_dom c h.1, h.2)
      part-has (in_view_index r d ns c) h = (h.0, h.1, exs-has c h.2)

      exs-has : (c : Ins) → AllHave w (fill_exs c a) → AllHave w (fill_exs c b)
      exs-has (in_first c es) h = (part-has c h.0, h.1)
      exs-has (in_later x c) h = (h.0, exs-has c h.1)

      gens-has : (c : InGens) → GensHave w (fill_gens c a) → GensHave w (fill_gens c b)
      gens-has (in_generator_domain p c gs) h = (h.0, in_dom c h.1, h.2)
      gens-has (behind_over p d c) h = (h.0, h.1, gens-has c h.2)
      gens-has (in_source p c gs) h = (in_draws p c h.0, part-has c h.1, h.2)
      gens-has (behind_from p x c) h = (h.0, h.1, gens-has c h.2)
      gens-has (in_condition c gs) h = (part-has c h.0, h.1)
      gens-has (behind_condition x c) h = (h.0, gens-has c h.1)

  -- ---- what stands for a name

  module _ (y : Text) (t : Ex) (puts : Puts w y t) where
    abbrev f : Text → Ex
    f = for_name y t

    at-name : (a : Text) → IsTrue (w.name a) → PartsHave w (f a)
    at-name a k = go (same_text y a)
      where
        go : (b : Bool) → PartsHave w (if b then t else name_ex a)
        go true = puts.item
        go false = k

    mutual
      pub put-parts : (e : Ex) → PartsHave w e → PartsHave w (substitute f e)
      put-parts (number_ex n) h = tt
      put-parts (truth_ex b) h = tt
      put-parts (name_ex a) h = at-name a h
      put-parts (node_ex b op es) h = put-exs es h
      put-parts (matrix_ex es d) h = (put-exs es h.0, puts.in_dom d h.1)
      put-parts (comp_ex e gs) h = (put-parts e h.0, put-gens gs h.1)
      put-parts (cell_ex b n es) h = (h.0, put-exs es h.1)
      put-parts (seen_ex r d ns es) h = (h.0, puts.in_dom d h.1, put-exs es h.2)

      put-exs : (es : Exs) → AllHave w es → AllHave w (substitute_exs f es)
      put-exs no_exs h = tt
      put-exs (more_exs e es) h = (put-parts e h.0, put-exs es h.1)

      pub put-gens : (gs : Gens) → GensHave w gs → GensHave w (substitute_gens f gs)
      put-gens no_gens h = tt
      put-gens (over p d gs) h = (h.0, puts.in_dom d h.1, put-gens gs h.2)
      put-gens (from p e gs) h = (puts.in_source p e h.0, put-parts e h.1, put-gens gs h.2)
      put-gens (cond e gs) h = (put-parts e h.0, put-gens gs h.1)

  -- Generators one behind the other.
  pub append-parts : (gs hs : Gens) → GensHave w gs → GensHave w hs → GensHave w (append_gens gs hs)
  append-parts no_gens hs h k = k
  append-parts (over p d gs) hs h k = (h.0, h.1, append-parts gs hs h.2 k)
  append-parts (from p e gs) hs h k = (h.0, h.1, append-parts gs hs h.2 k)
  append-parts (cond e gs) hs h k = (h.0, append-parts gs hs h.1 k)
