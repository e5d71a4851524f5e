-- With plain keys the names of a lean tree are bound no deeper.
use Rattle.std.proofs.Common.{◌≡◌, refl, sym, subst, ℕ, zero, suc, ◌≤◌, nat_le, Bool, true, false, ◌&&◌, not, if◌then◌else◌, ◌∷◌, ℤ}
use Rattle.std.proofs.Common.{Option, Some, None, arith}
use Rattle.ess_semantics.specs.declared.words.Op2.{Op2}
use Rattle.ess_semantics.specs.declared.words.Fun.{Fun}
use Rattle.ess_semantics.specs.Lists.{and_then, or_default, when}
use Rattle.ess_semantics.specs.Values.{Text}
use Rattle.ess_semantics.specs.Order.{same_text}
use Rattle.ess_semantics.specs.Names.{Names, look}
use Rattle.ess_semantics.specs.Trees.{binary, matrix_literal, name_pat, Ex, Exs, number_ex, truth_ex, name_ex, node_ex, comp_ex, no_exs, more_exs, Gens, no_gens, over, from, cond, Dom, bool_dom, int_dom, ex2, fun1}
use Rattle.ess_semantics.proofs.Tests.{and-right}
use Rattle.ess_guard_laws.specs.Origins.{Origin, is_sure}
use Rattle.ess_guard_laws.specs.Conditions.{unless}
use Rattle.ess_keys_laws.specs.KeyForms.{key_of, is_truth, as_index, as_indices, is_settled}
use Rattle.ess_keys_laws.specs.Chains.{is_of_flat_form, chain, all_under_and, has_many, conjuncts_of}
use Rattle.ess_keys_laws.specs.Keyed.{Around, key_for, key_now, if_sure, sure_key, entered, laid, is_bare, are_conditions, connected}
use Rattle.ess_keys_laws.specs.Keyed.{all_of, conditions_of, how_many, joined, connective_of, is_folded, fold_of, folded, conjuncts}
use Rattle.ess_keys_laws.specs.Keyed.{all_conjuncts, conditions_before}
use Rattle.ess_keys_laws.specs.Keyed.{generator_before, keyed, keyed_all, keyed_gens, keyed_behind}
use Rattle.ess_keys_laws.proofs.Forms.{before-append}
use Rattle.ess_depth_laws.specs.Depth.{NestsWithin, AllNestWithin, NestBehind, DomNestsWithin}
use Rattle.ess_bare_written_laws.proofs.Scopes.{Item}
use Rattle.ess_bare_laws.specs.Lean.{Lean, a_number, a_truth, a_name, a_cell, by_one, by_two, by_power, by_truth, by_fold, by_items, by_greatest, by_order, Leans, last_lean, more_leans, Terms, no_terms, more_terms, Row, listed, alone, Ranging, behind_all, over_truths, over_numbers, under}

-- ---- folds

laid-nests : (n : ℕ) (e : Ex) (gs : Gens) → NestBehind n gs (Item e) → NestsWithin n (laid e gs)
laid-nests n e no_gens h = (h, tt)
laid-nests n e (over p d gs) h = h
laid-nests n e (from p x gs) h = h
laid-nests n e (cond c gs) h = h

connected-nests : (n : ℕ) (o : Op2) (gs : Gens) (e : Ex) → are_conditions gs ≡ true → NestBehind n gs (Item e) →
    NestsWithin n (connected o gs e)
connected-nests n o no_gens e q h = h
connected-nests n o (over p d gs) e q h = cc
connected-nests n o (from p x gs) e q h = cc
connected-nests n o (cond c gs) e q h = (h.0, (connected-nests n o gs e q h.1, tt))

all-nest : (n : ℕ) (gs : Gens) (e : Ex) → are_conditions gs ≡ true → NestBehind n gs (Item e) → AllNestWithin n (all_of gs e)
all-nest n no_gens e q h = (h, tt)
all-nest n (over p d gs) e q h = cc
all-nest n (from p x gs) e q h = cc
all-nest n (cond c gs) e q h = (h.0, all-nest n gs e q h.1)

either-nests : (n : ℕ) (gs : Gens) (e : Ex) (b : Bool) → are_conditions gs ≡ true → NestBehind n gs (Item e) →
    NestsWithin n (if b then all_under_and (all_of gs e) else connected Op2.And gs e)
either-nests n gs e true q h = (all-nest n gs e q h, tt)
either-nests n gs e false q h = connected-nests n Op2.And gs e q h

conditions-alone : (n : ℕ) (gs : Gens) (e : Ex) → are_conditions gs ≡ true → NestBehind n gs (Item e) → AllNestWithin n (conditions_of gs)
conditions-alone n no_gens e q h = tt
conditions-alone n (over p d gs) e q h = cc
conditions-alone n (from p x gs) e q h = cc
conditions-alone n (cond c gs) e q h = (h.0, conditions-alone n gs e q h.1)

body-nests : (n : ℕ) (gs : Gens) (e : Ex) → are_conditions gs ≡ true → NestBehind n gs (Item e) → NestsWithin n e
body-nests n no_gens e q h = h
body-nests n (over p d gs) e q h = cc
body-nests n (from p x gs) e q h = cc
body-nests n (cond c gs) e q h = body-nests n gs e q h.1

led-nests : (n : ℕ) (gs : Gens) (e : Ex) (b : Bool) → are_conditions gs ≡ true → NestBehind n gs (Item e) →
    NestsWithin n (if b then ex2 true Op2.Implies (all_under_and (conditions_of gs)) e else connected Op2.Implies gs e)
led-nests n gs e true q h = ((conditions-alone n gs e q h, tt), (body-nests n gs e q h, tt))
led-nests n gs e false q h = connected-nests n Op2.Implies gs e q h

joined-nests : (n : ℕ) (o : Op2) (gs : Gens) (e : Ex) → are_conditions gs ≡ true → NestBehind n gs (Item e) →
    NestsWithin n (joined o gs e)
joined-nests n Op2.And gs e q h = either-nests n gs e (nat_le 16 (how_many gs)) q h
joined-nests n Op2.Implies gs e q h = led-nests n gs e (nat_le 16 (how_many gs)) q h
joined-nests n o gs e q h = connected-nests n o gs e q h

conditions-nest : (n : ℕ) (f : Fun) (b : Bool) (gs : Gens) (e : Ex) (p : Option Op2) (c : Bool) → (c ≡ true → are_conditions gs ≡ true) →
    NestBehind n gs (Item e) → NestsWithin n (or_default (and_then p (λ o. when c (joined o gs e))) (fun1 b f (comp_ex e gs)))
conditions-nest n f b gs e None c q h = (h, tt)
conditions-nest n f b gs e (Some o) true q h = joined-nests n o gs e (q refl) h
conditions-nest n f b gs e (Some o) false q h = (h, tt)

item-nests : (n : ℕ) (b : Bool) (f : Fun) (e : Ex) (c : Bool) → NestsWithin n e →
    NestsWithin n (or_default (when c e) (fun1 b f (node_ex false matrix_literal (more_exs e no_exs))))
item-nests n b f e true h = h
item-nests n b f e false h = ((h, tt), tt)

fold-nests : (n : ℕ) (k : Names Origin) (b : Bool) (f : Fun) (l : Ex) → NestsWithin n l →
    NestsWithin n (or_default (fold_of k b f l) (fun1 b f l))
fold-nests n k b f (comp_ex e gs) h =
    conditions-nest n f b gs e (connective_of b f) (not (is_bare gs) && are_conditions gs)
    (λ q. and-right (not (is_bare gs)) (are_conditions gs) q) h
fold-nests n k b f (node_ex false matrix_literal (more_exs e no_exs)) h = item-nests n b f e (is_folded k b f e) h.0
fold-nests n k b f l h = (h, tt)

-- ---- conjunctions

chain-nests : (n : ℕ) (e : Ex) → NestsWithin n e → AllNestWithin n (chain e)
chain-nests n (ex2 true Op2.And a r) h = (h.0, chain-nests n r h.1.0)
chain-nests n e h = (h, tt)

conjuncts_of-nest : (n : ℕ) (e : Ex) → NestsWithin n e → AllNestWithin n (conjuncts_of e)
conjuncts_of-nest n (fun1 true Fun.And (node_ex false matrix_literal es)) h = h.0
conjuncts_of-nest n e h = chain-nests n e h

listed-nests : (n : ℕ) (b : Bool) (x y : Ex) → NestsWithin n x → NestsWithin n y →
    NestsWithin n (or_default (when b (all_under_and (more_exs x (conjuncts_of y)))) (ex2 true Op2.And x y))
listed-nests n true x y h k = ((h, conjuncts_of-nest n y k), tt)
listed-nests n false x y h k = (h, (k, tt))

binary-nests : (n : ℕ) (k : Names Origin) (b : Bool) (o : Op2) (x y : Ex) → NestsWithin n x → NestsWithin n y →
    NestsWithin n (folded k b (binary o) (more_exs x (more_exs y no_exs)))
binary-nests n k true Op2.And x y h g = listed-nests n (has_many y && not (is_of_flat_form x && is_of_flat_form y)) x y h g
binary-nests n k b o x y h g = (h, (g, tt))

-- ---- indices and conditions

index-nests : (n : ℕ) (k : Names Origin) (e : Ex) → NestsWithin n e → NestsWithin n (as_index k e)
index-nests n k (truth_ex true) h = tt
index-nests n k (truth_ex false) h = tt
index-nests n k e h = go (is_truth k e)
  where
    go : (b : Bool) → NestsWithin n (if b then fun1 false Fun.ToInt e else e)
    go true = (h, tt)
    go false = h

indices-nest : (n : ℕ) (k : Names Origin) (es : Exs) → AllNestWithin n es → AllNestWithin n (as_indices k es)
indices-nest n k no_exs h = tt
indices-nest n k (more_exs e es) h = (index-nests n k e h.0, indices-nest n k es h.1)

unless-nests : (n : ℕ) (b : Bool) (c : Ex) (gs : Gens) (K : ℕ → Type 0) → NestsWithin n c → NestBehind n gs K →
    NestBehind n (conditions_before (unless b c) gs) K
unless-nests n true c gs K h s = s
unless-nests n false c gs K h s = (h, s)

mutual
  conjuncts-nest : (n : ℕ) (k : Names Origin) (c : Ex) (gs : Gens) (K : ℕ → Type 0) → NestsWithin n c → NestBehind n gs K →
      NestBehind n (conditions_before (conjuncts k c) gs) K
  conjuncts-nest n k (ex2 true Op2.And a b) gs K h s =
      subst (λ hs. NestBehind n hs K) (sym (before-append (conjuncts k a) (conjuncts k b) gs))
      (conjuncts-nest n k a (conditions_before (conjuncts k b) gs) K h.0 (conjuncts-nest n k b gs K h.1.0 s))
  conjuncts-nest n k (fun1 true Fun.And (node_ex false matrix_literal es)) gs K h s = all_conjuncts-nest n k es gs K h.0 s
  conjuncts-nest n k c gs K h s = unless-nests n (is_settled k c) c gs K h s

  all_conjuncts-nest : (n : ℕ) (k : Names Origin) (es : Exs) (gs : Gens) (K : ℕ → Type 0) → AllNestWithin n es → NestBehind n gs K →
      NestBehind n (conditions_before (all_conjuncts k es) gs) K
  all_conjuncts-nest n k no_exs gs K h s = s
  all_conjuncts-nest n k (more_exs e es) gs K h s =
      subst (λ hs. NestBehind n hs K) (sym (before-append (conjuncts k e) (all_conjuncts k es) gs))
      (conjuncts-nest n k e (conditions_before (all_conjuncts k es) gs) K h.0 (all_conjuncts-nest n k es gs K h.1 s))

-- ---- keys

-- Keys bind nothing.
abbrev pub Unbinding : Names Ex → Type 0
Unbinding s = (a : Text) (t : Ex) → look s a ≡ Some t → (n : ℕ) → NestsWithin n t

key-nests : (n : ℕ) (s : Names Ex) → Unbinding s → (a : Text) → NestsWithin n (key_for s a)
key-nests n s h a = go (look s a) refl
  where
    go : (o : Option Ex) → look s a ≡ o → NestsWithin n (or_default (look s a) (name_ex a))
    go None q = subst (λ o. NestsWithin n (or_default o (name_ex a))) (sym q) tt
    go (Some t) q = subst (λ o. NestsWithin n (or_default o (name_ex a))) (sym q) (h a t q n)

sure-nests : (k : Names Origin) (t : Ex) (d : Dom) → is_sure k t d ≡ true → (n : ℕ) → NestsWithin n t
sure-nests k (number_ex i) d q n = tt
sure-nests k (name_ex a) d q n = tt
sure-nests k t d q n = cc

with-key : (s : Names Ex) (j : Text) (t : Ex) → Unbinding s → ((n : ℕ) → NestsWithin n t) → Unbinding ((j, t) ∷ s)
with-key s j t h e a x q = go (same_text j a) q
  where
    go : (b : Bool) → (if b then Some t else look s a) ≡ Some x → (n : ℕ) → NestsWithin n x
    go true q = let p : t ≡ x = cc in subst (λ y. (n : ℕ) → NestsWithin n y) p e
    go false q = h a x q

asked-none : (c : Around) (j : Text) (d : Dom) (o : Option Ex) → Unbinding c.keys →
    Unbinding (entered c (name_pat j) d (if_sure c d o)).keys
asked-none c j d None h = h
asked-none c j d (Some t) h = go (is_sure c.origins (key_now c.keys t) d) refl
  where
    go : (b : Bool) → is_sure c.origins (key_now c.keys t) d ≡ b →
        Unbinding (entered c (name_pat j) d (if b then Some (key_now c.keys t) else None)).keys
    go true q = with-key c.keys j (key_now c.keys t) h (sure-nests c.origins (key_now c.keys t) d q)
    go false q = h

-- ---- generators

-- What is asked of the generators gs that have become hs: where no more than n names were bound around a place, no more than m are.
abbrev Follows : Gens → (ℕ → Type 0) → Gens → (ℕ → Type 0) → Type 0
Follows gs K hs J = (n m : ℕ) → n ≤ m → NestBehind n gs K → NestBehind m hs J

-- One more, which may have a key.
before-nests : (j : Text) (d e : Dom) (o : Option Ex) (gs hs : Gens) (K J : ℕ → Type 0) →
    ((n m : ℕ) → n ≤ m → DomNestsWithin n d → DomNestsWithin m e) → Follows gs K hs J →
    Follows (over (name_pat j) d gs) K (generator_before (name_pat j) e o hs) J
before-nests j d e o gs hs K J f s zero m l h = absurd h
before-nests j d e (Some t) gs hs K J f s (suc n) m l h = s n m (omega (arith, l)) h.1
before-nests j d e None gs hs K J f s (suc n) zero l h = absurd (omega (arith, l))
before-nests j d e None gs hs K J f s (suc n) (suc m) l h = (f (suc n) (suc m) l h.0, s n m (omega (arith, l)) h.1)

-- ---- trees

module _ (cells : Text → Option (Bool × ℕ)) (ok : ℤ → Bool) (fine : Text → Bool) (plain : Bool) where
  abbrev L : Names Bool → Ex → Bool → Type 0
  L = Lean cells ok fine plain

  -- What stands behind generators: whatever does there follows too.
  record Behind (gs : Gens) (c : Around) : Type 0 where
    keys : Unbinding (keyed_behind c gs).keys
    follows : (e f : Ex) → ((n m : ℕ) → n ≤ m → NestsWithin n e → NestsWithin m f) → Follows gs (Item e) (keyed_gens c gs) (Item f)

  list-nests : (gs : Gens) (c : Around) → Behind gs c → (e f : Ex) → ((n m : ℕ) → n ≤ m → NestsWithin n e → NestsWithin m f) →
      (n m : ℕ) → n ≤ m → NestBehind n gs (Item e) → NestsWithin m (laid f (keyed_gens c gs))
  list-nests gs c b e f k n m l s = laid-nests m f (keyed_gens c gs) (b.follows e f k n m l s)

  mutual
    -- Where no more than n names were bound around a place, no more than m are.
    pub keyed-nests : {r : Names Bool} {e : Ex} {i : Bool} → L r e i → (c : Around) → Unbinding c.keys → (n m : ℕ) → n ≤ m →
        NestsWithin n e → NestsWithin m (keyed c e)
    keyed-nests (a_number q) c h n m l s = tt
    keyed-nests a_truth c h n m l s = tt
    keyed-nests (a_name {a = a} q) c h n m l s = key-nests m c.keys h a
    keyed-nests (a_cell {es = es} q t) c h n m l s = indices-nest m c.origins (keyed_all c es) (terms-nest t c h n m l s)
    keyed-nests (by_one w f) c h n m l s = (keyed-nests f c h n m l s.0, tt)
    keyed-nests (by_two {b = b} {o = o} {x = x} {y = y} w f g) c h n m l s =
        binary-nests m c.origins b o (keyed c x) (keyed c y) (keyed-nests f c h n m l s.0) (keyed-nests g c h n m l s.1.0)
    keyed-nests (by_power f g) c h n m l s = (keyed-nests f c h n m l s.0, (keyed-nests g c h n m l s.1.0, tt))
    keyed-nests (by_truth {x = x} f) c h n m l s = fold-nests m c.origins false Fun.ToInt (keyed c x) (keyed-nests f c h n m l s.0)
    keyed-nests (by_fold {b = b} {f = f} {e = e} {gs = gs} w t x) c h n m l s =
        let i = ranging-nests t c h in
        fold-nests m c.origins b f (laid (keyed (keyed_behind c gs) e) (keyed_gens c gs))
        (list-nests gs c i e (keyed (keyed_behind c gs) e) (λ n m l s. keyed-nests x (keyed_behind c gs) i.keys n m l s) n m l s.0)
    keyed-nests (by_items {b = b} {f = f} {es = es} w t) c h n m l s =
        fold-nests m c.origins b f (node_ex false matrix_literal (keyed_all c es)) (leans-nest t c h n m l s.0)
    keyed-nests (by_greatest f g) c h n m l s = ((keyed-nests f c h n m l s.0.0, (keyed-nests g c h n m l s.0.1.0, tt)), tt)
    keyed-nests (by_order {o = o} {x = x} {y = y} w f g) c h n m l s =
        binary-nests m c.origins true o (keyed c x) (keyed c y) (row-nests f c h n m l s.0) (row-nests g c h n m l s.1.0)

    leans-nest : {r : Names Bool} {es : Exs} {i : Bool} → Leans cells ok fine plain r es i → (c : Around) → Unbinding c.keys →
        (n m : ℕ) → n ≤ m → AllNestWithin n es → AllNestWithin m (keyed_all c es)
    leans-nest (last_lean f) c h n m l s = (keyed-nests f c h n m l s.0, tt)
    leans-nest (more_leans f t) c h n m l s = (keyed-nests f c h n m l s.0, leans-nest t c h n m l s.1)

    terms-nest : {w : Bool} {r : Names Bool} {es : Exs} {k : ℕ} → Terms cells ok fine plain w r es k → (c : Around) → Unbinding c.keys →
        (n m : ℕ) → n ≤ m → AllNestWithin n es → AllNestWithin m (keyed_all c es)
    terms-nest no_terms c h n m l s = tt
    terms-nest (more_terms w f t) c h n m l s = (keyed-nests f c h n m l s.0, terms-nest t c h n m l s.1)

    row-nests : {r : Names Bool} {e : Ex} {i : Bool} → Row cells ok fine plain r e i → (c : Around) → Unbinding c.keys → (n m : ℕ) →
        n ≤ m → NestsWithin n e → NestsWithin m (keyed c e)
    row-nests (listed {e = e} {gs = gs} t x) c h n m l s =
        let i = ranging-nests t c h in
        list-nests gs c i e (keyed (keyed_behind c gs) e) (λ n m l s. keyed-nests x (keyed_behind c gs) i.keys n m l s) n m l s
    row-nests (alone f) c h n m l s = (keyed-nests f c h n m l s.0, tt)

    ranging-nests : {r t : Names Bool} {gs : Gens} → Ranging cells ok fine plain r gs t → (c : Around) → Unbinding c.keys → Behind gs c
    ranging-nests behind_all c h = record { keys = h; follows = λ e f k n m l s. k n m l s }
    ranging-nests (over_truths {a = a} {gs = gs} f t) c h =
        let o = sure_key c (name_pat a) bool_dom gs in
        let b = ranging-nests t (entered c (name_pat a) bool_dom o) (asked-none c a bool_dom (key_of a gs) h) in record {
          keys = b.keys;
          follows = λ e f i. before-nests a bool_dom bool_dom o gs (keyed_gens (entered c (name_pat a) bool_dom o) gs) (Item e) (Item f)
              (λ n m l s. tt) (b.follows e f i);
        }
    ranging-nests (over_numbers {a = a} {rs = rs} {es = es} {gs = gs} f q ts t) c h =
        let d = int_dom rs (keyed_all c es) in
        let o = sure_key c (name_pat a) d gs in
        let b = ranging-nests t (entered c (name_pat a) d o) (asked-none c a d (key_of a gs) h) in record {
          keys = b.keys;
          follows = λ e f i. before-nests a (int_dom rs es) d o gs (keyed_gens (entered c (name_pat a) d o) gs) (Item e) (Item f)
              (λ n m l s. terms-nest ts c h n m l s) (b.follows e f i);
        }
    ranging-nests (under {c = x} {gs = gs} f t) c h =
        let b = ranging-nests t c h in record {
          keys = b.keys;
          follows = λ e j i n m l s. conjuncts-nest m c.origins (keyed c x) (keyed_gens c gs) (Item j) (keyed-nests f c h n m l s.0)
              (b.follows e j i n m l s.1);
        }
