-- What is written for domains, one by one.
use Rattle.std.proofs.Common.{◌≡◌, sym, ap, ◌∙◌, subst, ℕ, zero, suc, ◌+◌, ◌<◌, ◌≤◌, inl, inr, List, [], ◌∷◌, ◌++◌, length, map, take, get_or, arith}
use Rattle.std.proofs.lemmas.List.{take_more, map_push, take_all}
use Rattle.ess_semantics.specs.Values.{Text}
use Rattle.ess_grammar.specs.Models.{Scope}
use Rattle.conjure_laws.specs.SideBySide.{Along}
use Rattle.ess_core_nodes.specs.declared.nodes.NodeDom.{NodeDom}
use Rattle.ess_core_nodes.specs.NodeViews.{pure_dom}
use Rattle.eprime_tree.specs.declared.expressions.PDom.{PDom}
use Rattle.eprime_tree.specs.Views as P
use Rattle.ess_model_written.specs.DeclarationsWritten.{DomIsWritten, DomFails, OneDomFails}

push : {A B : Type 0} (R : A → B → Type 0) (xs : List A) (ys : List B) (x : A) (y : B) → Along xs ys R → R x y
    → Along (xs ++ x ∷ []) (ys ++ y ∷ []) R
push R [] [] x y h p = (p, tt)
push R (a ∷ xs) (b ∷ ys) x y h p = (h.0, push R xs ys x y h.1 p)
push R [] (b ∷ ys) x y h p = absurd h
push R (a ∷ xs) [] x y h p = absurd h

module _ (s : Scope) (taken : List Text) (k : ℕ) where
  -- That is written for these.
  pub record DomsOf (ds : List NodeDom) (es : List PDom) : Type 0 where
    pub each : Along (map pure_dom ds) (map (P.pure_dom s) es) (DomIsWritten s taken k)

  -- At first there are none.
  pub none_written : DomsOf [] []
  none_written = record { each = tt }

  -- One domain more.
  pub domain_more : (ds : List NodeDom) (i : ℕ) (d : NodeDom) (e : PDom) (done new : List PDom) → i < length ds → d ≡ get_or ds i d
      → DomIsWritten s taken k (pure_dom d) (P.pure_dom s e) → new ≡ done ++ e ∷ [] → DomsOf (take i ds) done → DomsOf (take (i + 1) ds) new
  domain_more ds i d e done new lt is p n h =
      let more : map pure_dom (take (i + 1) ds) ≡ map pure_dom (take i ds) ++ pure_dom d ∷ [] =
      ap (map pure_dom) (take_more ds i d lt ∙ ap (λ x. take i ds ++ x ∷ []) (sym is)) ∙ map_push pure_dom (take i ds) d in
      let longer : map (P.pure_dom s) new ≡ map (P.pure_dom s) done ++ P.pure_dom s e ∷ [] =
      ap (map (P.pure_dom s)) n ∙ map_push (P.pure_dom s) done e in
      record {
        each = subst (λ l. Along l (map (P.pure_dom s) new) (DomIsWritten s taken k)) (sym more)
            (subst (λ l. Along (map pure_dom (take i ds) ++ pure_dom d ∷ []) l (DomIsWritten s taken k)) (sym longer)
            (push (DomIsWritten s taken k) (map pure_dom (take i ds)) (map (P.pure_dom s) done) (pure_dom d) (P.pure_dom s e) h.each p));
      }

  -- All of them.
  pub all_written : (ds : List NodeDom) (done : List PDom) (i : ℕ) → length ds ≤ i → DomsOf (take i ds) done
      → Along (map pure_dom ds) (map (P.pure_dom s) done) (DomIsWritten s taken k)
  all_written ds done i h p =
      subst (λ l. Along (map pure_dom l) (map (P.pure_dom s) done) (DomIsWritten s taken k)) (take_all i ds h) p.each

  -- Nothing is written for one.
  pub domain_fails : (ds : List NodeDom) (i : ℕ) (d : NodeDom) → i < length ds → d ≡ get_or ds i d → DomFails s taken k (pure_dom d)
      → OneDomFails s taken k (map pure_dom ds)
  domain_fails [] i d lt is p = absurd (omega (arith, lt))
  domain_fails (x ∷ ds) zero d lt is p = inl (subst (λ y. DomFails s taken k (pure_dom y)) is p)
  domain_fails (x ∷ ds) (suc i) d lt is p = inr (domain_fails ds i d (omega (arith, lt)) is p)
