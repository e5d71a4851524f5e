-- Rules that change the order of items behind generators, under words that forget it.
use Rattle.std.proofs.Common.{◌≡◌, sym, ap, ◌∙◌, subst, Bool, true, List, [], ◌∷◌, Option, Some, None, option_map}
use Rattle.ess_semantics.specs.declared.words.Fun.{Fun}
use Rattle.ess_semantics.specs.Values.{Value, to_list, of_list, items_of}
use Rattle.ess_semantics.specs.Collections.{count, sorted}
use Rattle.ess_semantics.specs.Trees.{word, Ex, comp_ex, fun1, Gens, no_gens, over, from, cond}
use Rattle.ess_semantics.specs.ExpressionJudgements.{forgets_order}
use Rattle.ess_semantics.specs.Operators.{value_of_node, list_value}
use Rattle.ess_semantics.specs.Contexts.{AtEach}
use Rattle.ess_semantics.specs.Meaning.{Env, meaning, domain_of, members_in, items_under, with_pat}
use Rattle.ess_semantics.specs.Meets.{Meets, MeetsGens}
use Rattle.ess_semantics.specs.Kept.{Keeps}
use Rattle.ess_semantics.proofs.Orders.{to_list-of_list}
use Rattle.ess_semantics.proofs.Multisets.{count-sorted}
use Rattle.ess_rules_laws.specs.SpliceRules.{append_gens}
use Rattle.ess_rules_laws.proofs.Bindings.{each-of-map, each-in-map, at-each-map}
use Rattle.ess_rules_laws.proofs.Permutations.{Alike, unordered-alike, items-alike-behind}
use Rattle.ess_rules_laws.proofs.SameItems.{perm-of-counts, unordered-word}
use Rattle.ess_rules_laws.proofs.Splices.{items-append}
use Rattle.ess_rules_laws.proofs.Steps.{meets-gens-join, at-each-met}
use Rattle.ess_kinds_kept_laws.specs.UnorderedTails.{items_counted, UnorderedTails}

-- ---- structures

-- Structures of generators behind others, at each binding of these.
pub meets-apart : (gs hs : Gens) (env : Env) (P : Env → Type 0) → MeetsGens (append_gens gs hs) env P →
    MeetsGens gs env (λ here. MeetsGens hs here P)
meets-apart no_gens hs env P m = m
meets-apart (over p d gs) hs env P m =
    (m.0, each-of-map (members_in (domain_of d env)) _ _ (λ v. meets-apart gs hs (with_pat p v env) P) m.1)
meets-apart (from p e gs) hs env P m =
    (m.0, each-in-map (meaning e env) _ _ (λ v. meets-apart gs hs (with_pat p v env) P) m.1)
meets-apart (cond c gs) hs env P m = (m.0, λ t. meets-apart gs hs env P (m.1 t))

-- And back.
pub meets-together : (gs hs : Gens) (env : Env) (P : Env → Type 0) → MeetsGens gs env (λ here. MeetsGens hs here P) →
    MeetsGens (append_gens gs hs) env P
meets-together no_gens hs env P m = m
meets-together (over p d gs) hs env P m =
    (m.0, each-of-map (members_in (domain_of d env)) _ _ (λ v. meets-together gs hs (with_pat p v env) P) m.1)
meets-together (from p e gs) hs env P m =
    (m.0, each-in-map (meaning e env) _ _ (λ v. meets-together gs hs (with_pat p v env) P) m.1)
meets-together (cond c gs) hs env P m = (m.0, λ t. meets-together gs hs env P (m.1 t))

-- ---- multisets of items

abbrev Counted : Option (List Value) → Option Value
Counted o = value_of_node (word Fun.ToMSet) (option_map list_value o ∷ [])

abbrev items_or : Option Value → List Value
items_or None = []
items_or (Some v) = items_of v

sorted-same : (xs ys : List Value) → Counted (Some xs) ≡ Counted (Some ys) → sorted xs ≡ sorted ys
sorted-same xs ys q = ap sorted (sym (to_list-of_list xs)) ∙ sym (to_list-of_list (sorted (to_list (of_list xs))))
    ∙ ap items_or q ∙ to_list-of_list (sorted (to_list (of_list ys))) ∙ ap sorted (to_list-of_list ys)

-- Items with one multiset are alike.
alike-counted : (o p : Option (List Value)) → Counted o ≡ Counted p → Alike o p
alike-counted None None q = tt
alike-counted None (Some ys) q = cc
alike-counted (Some xs) None q = cc
alike-counted (Some xs) (Some ys) q = perm-of-counts xs ys
    (λ v. sym (count-sorted xs v) ∙ ap (λ l. count l v) (sorted-same xs ys q) ∙ count-sorted ys v)

module _ (gs hs ks : Gens) (e f : Ex) (env : Env) (w : AtEach gs env (Keeps (items_counted e hs) (items_counted f ks))) where
  abbrev old : Env → Option (List Value)
  old here = option_map (λ v. v ∷ []) (meaning e here)

  abbrev new : Env → Option (List Value)
  new here = option_map (λ v. v ∷ []) (meaning f here)

  abbrev Same : Env → Type 0
  Same here = (meaning (items_counted e hs) here ≡ meaning (items_counted f ks) here) × Meets (items_counted f ks) here

  kept-each : MeetsGens gs env (λ here. MeetsGens hs here (λ here. Meets e here)) → AtEach gs env Same
  kept-each m = at-each-met gs env (Keeps (items_counted e hs) (items_counted f ks)) (λ here. MeetsGens hs here (λ here. Meets e here)) Same
      (λ here k n. k (n, tt)) w m

  items-alike : AtEach gs env Same → Alike (items_under (append_gens gs hs) env old) (items_under (append_gens gs ks) env new)
  items-alike s = subst (λ z. Alike z (items_under (append_gens gs ks) env new))
      (sym (items-append env.positions env.types env.cells gs hs env.vals old))
      (subst (λ z. Alike (items_under gs env (λ here. items_under hs here old)) z)
      (sym (items-append env.positions env.types env.cells gs ks env.vals new))
      (items-alike-behind gs env (λ here. items_under hs here old) (λ here. items_under ks here new)
      (at-each-map gs env Same (λ here. Alike (items_under hs here old) (items_under ks here new))
      (λ here r. alike-counted (items_under hs here old) (items_under ks here new) r.0) s)))

  tails-kept : (m : Bool) (f' : Fun) → forgets_order (word f') ≡ true →
      Keeps (fun1 m f' (comp_ex e (append_gens gs hs))) (fun1 m f' (comp_ex f (append_gens gs ks))) env
  tails-kept m f' h k = let a = meets-apart gs hs env (λ here. Meets e here) k.0 in let s = kept-each a in (
    unordered-alike m f' (unordered-word f' h) (items_under (append_gens gs hs) env old) (items_under (append_gens gs ks) env new)
        (items-alike s),
    (
      meets-together gs ks env (λ here. Meets f here)
          (meets-gens-join gs env Same (λ here. MeetsGens hs here (λ here. Meets e here)) (λ here. MeetsGens ks here (λ here. Meets f here))
          (λ here r n. r.1.0) s a),
      tt,
    ),
  )

pub unordered-tails : UnorderedTails
unordered-tails m w h gs hs ks e f env k = tails-kept gs hs ks e f env k m w h
