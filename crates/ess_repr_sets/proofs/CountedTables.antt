-- Multisets of values that are repeated, and tables side by side with numbers.
use Rattle.std.proofs.Common.{◌≡◌, refl, sym, ap, ◌∙◌, subst, ℕ, zero, suc, ◌<◌, ◌≤◌, List, [], ◌∷◌, ◌++◌, map, length, get_or, ℤ, Option, Some, None, option_map, arith}
use Rattle.std.proofs.lemmas.List.{map-append}
use Rattle.ess_semantics.specs.Lists.{zip}
use Rattle.ess_semantics.specs.Values.{Value, a_mset, node, of_list}
use Rattle.ess_semantics.specs.Collections.{mset_of}
use Rattle.ess_semantics.specs.Tables.{Tables}
use Rattle.ess_semantics.specs.Layers.{each_repeated, repeated}
use Rattle.ess_core.specs.declared.values.Val.{Val}
use Rattle.ess_core.specs.ValueViews.{pure_val}
use Rattle.ess_repr_slots.specs.declared.counted.CountedSlot.{CountedSlot}
use Rattle.ess_repr_slots.specs.CountedViews.{pure_counted}
use Rattle.ess_repr_rows_laws.proofs.Blocks.{map-length}

-- ---- multisets

mapped : {A : Type 0} (F : List Value → Value) (G : A → List Value) (vs : List Value) (q : Option A) → Some vs ≡ option_map G q → Some (F vs) ≡ option_map (λ n. F (G n)) q
mapped F G vs None h = cc
mapped F G vs (Some n) h = let z : vs ≡ G n = cc in ap (λ l. Some (F l)) z

mapped-none : {A : Type 0} (F : List Value → Value) (G : A → List Value) (q : Option A) → None ≡ option_map G q → None ≡ option_map (λ n. F (G n)) q
mapped-none F G None h = refl
mapped-none F G (Some n) h = cc

module _ (ms : List Value) (q : Option (List ℕ)) (o : Option (List Val)) where
  -- Members that are each repeated.
  pub counts_there : (vs : List Val) → o ≡ Some vs → option_map (map pure_val) o ≡ option_map (λ ns. each_repeated ns ms) q →
      Some (node a_mset (of_list (map pure_val vs))) ≡ option_map (λ ns. node a_mset (of_list (each_repeated ns ms))) q
  counts_there vs e h = mapped (λ l. node a_mset (of_list l)) (λ ns. each_repeated ns ms) (map pure_val vs) q (ap (option_map (map pure_val)) (sym e) ∙ h)

  pub counts_none : o ≡ None → option_map (map pure_val) o ≡ option_map (λ ns. each_repeated ns ms) q → None ≡ option_map (λ ns. node a_mset (of_list (each_repeated ns ms))) q
  counts_none e h = mapped-none (λ l. node a_mset (of_list l)) (λ ns. each_repeated ns ms) q (ap (option_map (map pure_val)) (sym e) ∙ h)

  -- Values in slots that are repeated.
  pub counted_there : (vs : List Val) (w : Value) → o ≡ Some vs → w ≡ mset_of (map pure_val vs) → option_map (map pure_val) o ≡ option_map (λ ns. repeated ns ms) q →
      Some w ≡ option_map (λ ns. mset_of (repeated ns ms)) q
  counted_there vs w e p h = ap Some p ∙ mapped mset_of (λ ns. repeated ns ms) (map pure_val vs) q (ap (option_map (map pure_val)) (sym e) ∙ h)

  pub counted_none : o ≡ None → option_map (map pure_val) o ≡ option_map (λ ns. repeated ns ms) q → None ≡ option_map (λ ns. mset_of (repeated ns ms)) q
  counted_none e h = mapped-none mset_of (λ ns. repeated ns ms) q (ap (option_map (map pure_val)) (sym e) ∙ h)

-- ---- side by side

zip-nothing : (ns : List ℤ) → zip {B = Tables} ns [] ≡ []
zip-nothing [] = refl
zip-nothing (n ∷ ns) = refl

zip-push : (ns : List ℤ) (tss : List Tables) (k : ℕ) (d : ℤ) (ts : Tables) → k ≡ length (zip ns tss) → k < length ns → zip ns (tss ++ ts ∷ []) ≡ zip ns tss ++ (get_or ns k d, ts) ∷ []
zip-push [] tss k d ts e h = absurd (omega (arith, h))
zip-push (n ∷ ns) [] k d ts e h = ap (λ l. (n, ts) ∷ l) (zip-nothing ns) ∙ ap (λ j. (get_or (n ∷ ns) j d, ts) ∷ []) (sym e)
zip-push (n ∷ ns) (us ∷ tss) zero d ts e h = cc
zip-push (n ∷ ns) (us ∷ tss) (suc k) d ts e h =
    let q : k ≡ length (zip ns tss) = cc in
    let r : k < length ns = omega (arith, h) in
    ap (λ l. (n, us) ∷ l) (zip-push ns tss k d ts q r)

zip-long : (ns : List ℤ) (tss : List Tables) (ts : Tables) → length ns ≤ length (zip ns tss) → zip ns (tss ++ ts ∷ []) ≡ zip ns tss
zip-long [] tss ts h = refl
zip-long (n ∷ ns) [] ts h = absurd (omega (arith, h))
zip-long (n ∷ ns) (us ∷ tss) ts h = let r : length ns ≤ length (zip ns tss) = omega (arith, h) in ap (λ l. (n, us) ∷ l) (zip-long ns tss ts r)

-- No tables yet.
pub zip_start : (ns : List ℤ) (ss : List CountedSlot) → ss ≡ [] → map pure_counted ss ≡ zip {B = Tables} ns []
zip_start ns ss e = ap (map pure_counted) e ∙ sym (zip-nothing ns)

-- A number is left.
pub zip_more : (ns : List ℤ) (tss : List Tables) (old new : List CountedSlot) (s : CountedSlot) (ts : Tables) (k : ℕ) (d : ℤ) → k ≡ length old → k < length ns →
    pure_counted s ≡ (get_or ns k d, ts) → new ≡ old ++ s ∷ [] → map pure_counted old ≡ zip ns tss → map pure_counted new ≡ zip ns (tss ++ ts ∷ [])
zip_more ns tss old new s ts k d q h w p e =
    ap (map pure_counted) p ∙ map-append pure_counted old (s ∷ []) ∙ ap (λ l. l ++ pure_counted s ∷ []) e ∙ ap (λ x. zip ns tss ++ x ∷ []) w
    ∙ sym (zip-push ns tss k d ts (q ∙ sym (map-length pure_counted old) ∙ ap length e) h)

-- No number is left.
pub zip_full : (ns : List ℤ) (tss : List Tables) (old : List CountedSlot) (ts : Tables) → length ns ≤ length old → map pure_counted old ≡ zip ns tss →
    map pure_counted old ≡ zip ns (tss ++ ts ∷ [])
zip_full ns tss old ts h e =
    let q : length ns ≤ length (zip ns tss) = subst (λ n. length ns ≤ n) (sym (map-length pure_counted old) ∙ ap length e) h in
    e ∙ sym (zip-long ns tss ts q)
