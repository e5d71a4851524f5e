-- What structures say of the items of views is built of what has a property.
use Rattle.std.proofs.Common.{refl, ℕ, suc, true, false, List, [], ◌∷◌, pos}
use Rattle.ess_semantics.specs.declared.words.Op1.{Op1}
use Rattle.ess_semantics.specs.declared.words.Op2.{Op2}
use Rattle.ess_semantics.specs.declared.words.Fun.{Fun}
use Rattle.ess_semantics.specs.declared.words.Key.{Key}
use Rattle.ess_semantics.specs.Values.{Text}
use Rattle.ess_semantics.specs.Meaning.{is_bool_dom}
use Rattle.ess_semantics.specs.Kinds.{has_key}
use Rattle.ess_semantics.specs.Trees.{index, to_component, word, tuple_literal, Mark, flag, valued, Ex, Exs, number_ex, truth_ex, name_ex, node_ex, no_exs, more_exs, Dom, Doms, no_doms, more_doms, ex1, ex2}
use Rattle.ess_repr_laws.specs.StructureParts.{and_ex, or_ex, le_ex, keys_ex}
use Rattle.ess_repr_laws.specs.ViewParts.{component_ex, every_item_ex, components_differ_ex, all_taken_ex, pair_key_ex, exact_size_ex, total_size_ex, pairs_ex, times_held_ex, one_size_ex, regular_key_ex, parts_ex}
use Rattle.ess_repr_laws.specs.RelationParts.{has_pair_ex, first_ex, second_ex, turned_ex, parts_same_ex, pair_relation_key_ex, relation_key_ex}
use Rattle.ess_repr_laws.specs.MultisetParts.{freq_ex, occurs_key_ex, occurs_ex}
use Rattle.ess_repr_laws.specs.PartitionParts.{each_size_ex, part_key_ex, part_sizes_ex}
use Rattle.ess_repr_structure_laws.proofs.BuiltStructures as B
use Rattle.ess_repr_structure_laws.proofs.BuiltStructures.{BuiltOf, two-have, word-has}
use Rattle.ess_repr_structure_laws.proofs.BuiltParts as C
use Rattle.ess_repr_structure_laws.proofs.PickedNumbers.{if-has}

-- What attributes ask of the parts of a view e, of which there are n.
abbrev pub part_attributes_ex : (ℕ → Text) → ℕ → List Mark → Exs → Ex → Ex → Ex
part_attributes_ex q l ks ms n e = and_ex (part_sizes_ex q l n e ks ms) (keys_ex (regular_key_ex (one_size_ex q l e)) ks)

module _ (q : ℕ → Text) (P : Ex → Type 0) (L : Dom → Type 0) {H : Type 0} (built : BuiltOf q P L (Unit {0}) H) where
  abbrev AllHave : Exs → Type 0
  AllHave = B.AllHave P

  abbrev DomHas : Dom → Type 0
  DomHas = B.DomHas P

  and-has : (a b : Ex) → P a → P b → P (and_ex a b)
  and-has = C.and-has q P L built

  or-has : (a b : Ex) → P a → P b → P (or_ex a b)
  or-has = C.or-has q P L built

  le-has : (a b : Ex) → P a → P b → P (le_ex a b)
  le-has = C.le-has q P L built

  eq-has : (a b : Ex) → P a → P b → P (ex2 true Op2.Eq a b)
  eq-has = C.eq-has q P L built

  not-has : (a : Ex) → P a → P (ex1 true Op1.Not a)
  not-has = C.not-has q P L built

  name-has : (l : ℕ) → P (name_ex (q l))
  name-has l = built.names l

  -- ---- items

  component-has : (d : Dom) (k : ℕ) (e : Ex) → P e → P (component_ex d k e)
  component-has d k e h = built.nodes (is_bool_dom d) (index (to_component k ∷ [])) (more_exs e no_exs) refl (h, tt)

  every-has : (l : ℕ) (e test : Ex) → P e → P test → P (every_item_ex q l e test)
  every-has l e test h t = C.all-has q P L built test _ t ((l, refl), h, tt, tt)

  -- That components differ.
  pub differ-has : (l : ℕ) (d : Dom) (k : ℕ) (e : Ex) → P e → P (components_differ_ex q l d k e)
  differ-has l d k e h = C.differ-has q P L built _ _ (component-has d k (name_ex (q l)) (name-has l)) ((l, refl), h, tt, tt)

  taken-has : (l : ℕ) (c : Dom) (e : Ex) → DomHas c → P e → P (all_taken_ex q l c e)
  taken-has l c e d h =
      C.all-has q P L built _ _
      (C.some-has q P L built _ _ (eq-has _ (name_ex (q l)) (component-has c 2 (name_ex (q (suc l))) (name-has (suc l))) (name-has l))
      ((suc l, refl), h, tt, tt))
      ((l, refl), d, tt)

  pub pair-key-has : (l : ℕ) (c : Dom) (e : Ex) (k : Key) → DomHas c → P e → P (pair_key_ex q l c e k)
  pair-key-has l c e Key.Injective d h = differ-has l c 2 e h
  pair-key-has l c e Key.Surjective d h = taken-has l c e d h
  pair-key-has l c e Key.Bijective d h = and-has _ _ (differ-has l c 2 e h) (taken-has l c e d h)
  pair-key-has l c e _ d h = built.truths true

  -- ---- functions as relations

  exact-has : (ms : List Mark) (es : Exs) (m : Ex) → AllHave es → P m → P (exact_size_ex ms es m)
  exact-has [] es m a h = built.truths true
  exact-has (flag k ∷ ms) es m a h = exact-has ms es m a h
  exact-has (valued k ∷ ms) no_exs m a h = built.truths true
  exact-has (valued Key.Size ∷ ms) (more_exs e es) m a h = and-has _ _ (C.key-has q P L built Key.Size e m a.0 h) (exact-has ms es m a.1 h)
  exact-has (valued k ∷ ms) (more_exs e es) m a h = and-has _ _ (built.truths true) (exact-has ms es m a.1 h)

  pub pairs-have : (l : ℕ) (ms : List Mark) (es : Exs) (d c : Dom) (e : Ex) → AllHave es → DomHas c → P e → P (pairs_ex q l ms es d c e)
  pairs-have l ms es d c e a x h =
      and-has _ _ (differ-has l d 1 e h)
      (and-has (total_size_ex ms es e) (keys_ex (pair_key_ex q l c e) ms)
      (if-has P (has_key Key.Total ms) (exact_size_ex ms es (ex1 false Op1.Bar e)) (truth_ex true)
      (exact-has ms es (ex1 false Op1.Bar e) a (C.bar-has q P L built e h)) (built.truths true))
      (C.keys-have q P L built (pair_key_ex q l c e) ms (λ k. pair-key-has l c e k x h)))

  -- ---- partitions as sets

  held-has : (l : ℕ) (e : Ex) → P e → P (times_held_ex q l e)
  held-has l e h =
      C.sum-has q P L built _ _ (C.number-has q P L built _
      (two-have q P L built true Op2.Member (name_ex (q l)) (name_ex (q (suc l))) refl (name-has l) (name-has (suc l))))
      ((suc l, refl), h, tt, tt)

  one-size-has : (l : ℕ) (e : Ex) → P e → P (one_size_ex q l e)
  one-size-has l e h =
      C.all-has q P L built _ _
      (C.all-has q P L built _ _ (eq-has _ _ (C.bar-has q P L built (name_ex (q l)) (name-has l))
      (C.bar-has q P L built (name_ex (q (suc l))) (name-has (suc l)))) ((suc l, refl), h, tt, tt))
      ((l, refl), h, tt, tt)

  regular-has : (e : Ex) (k : Key) → P e → P (regular_key_ex e k)
  regular-has e Key.Regular h = h
  regular-has e _ h = built.truths true

  pub parts-have : (l : ℕ) (ms : List Mark) (d : Dom) (e : Ex) → DomHas d → P e → P (parts_ex q l ms d e)
  parts-have l ms d e x h =
      and-has _ _ (C.all-has q P L built _ _ (eq-has (times_held_ex q l e) (number_ex (pos 1)) (held-has l e h) built.one)
      ((l, refl), x, tt))
      (and-has _ _ (every-has l e _ h (le-has (number_ex (pos 1)) _ built.one (C.bar-has q P L built (name_ex (q l)) (name-has l))))
      (C.keys-have q P L built (regular_key_ex (one_size_ex q l e)) ms (λ k. regular-has (one_size_ex q l e) k (one-size-has l e h))))

  -- ---- relations

  has-pair-has : (e a b : Ex) → P e → P a → P b → P (has_pair_ex e a b)
  has-pair-has e a b h g f =
      two-have q P L built true Op2.Member (node_ex false tuple_literal (more_exs a (more_exs b no_exs))) e refl
      (built.nodes false tuple_literal (more_exs a (more_exs b no_exs)) refl (g, (f, tt))) h

  first-has : (l : ℕ) (d : Dom) → P (first_ex q l d)
  first-has l d = component-has d 1 (name_ex (q l)) (name-has l)

  second-has : (l : ℕ) (c : Dom) → P (second_ex q l c)
  second-has l c = component-has c 2 (name_ex (q l)) (name-has l)

  turned-has : (l : ℕ) (d c : Dom) (e : Ex) → P e → P (turned_ex q l d c e)
  turned-has l d c e h = has-pair-has e (second_ex q l c) (first_ex q l d) h (second-has l c) (first-has l d)

  parts-same-has : (l : ℕ) (d c : Dom) → P (parts_same_ex q l d c)
  parts-same-has l d c = eq-has (first_ex q l d) (second_ex q l c) (first-has l d) (second-has l c)

  pair-relation-key-has : (l : ℕ) (d c : Dom) (e : Ex) (k : Key) → DomHas d → P e → P (pair_relation_key_ex q l d c e k)
  pair-relation-key-has l d c e Key.Reflexive x h = C.all-has q P L built _ _
      (has-pair-has e (name_ex (q l)) (name_ex (q l)) h (name-has l) (name-has l)) ((l, refl), x, tt)
  pair-relation-key-has l d c e Key.Irreflexive x h = every-has l e _ h (not-has _ (parts-same-has l d c))
  pair-relation-key-has l d c e Key.Symmetric x h = every-has l e _ h (turned-has l d c e h)
  pair-relation-key-has l d c e Key.AntiSymmetric x h = every-has l e _ h
      (or-has _ _ (not-has _ (turned-has l d c e h)) (parts-same-has l d c))
  pair-relation-key-has l d c e Key.ASymmetric x h = every-has l e _ h (not-has _ (turned-has l d c e h))
  pair-relation-key-has l d c e Key.Transitive x h =
      every-has l e _ h (every-has (suc l) e _ h (C.implies-has q P L built _ _ (eq-has _ _ (second-has l c) (first-has (suc l) d))
      (has-pair-has e (first_ex q l d) (second_ex q (suc l) c) h (first-has l d) (second-has (suc l) c))))
  pair-relation-key-has l d c e _ x h = built.truths true

  pub relation-key-has : (l : ℕ) (ds : Doms) (e : Ex) (k : Key) → B.DomsHave P ds → P e → P (relation_key_ex q l ds e k)
  relation-key-has l (more_doms d (more_doms c no_doms)) e k x h = pair-relation-key-has l d c e k x.0 h
  relation-key-has l _ e k x h = built.truths false

  -- ---- multisets with repetition

  freq-has : (l : ℕ) (e : Ex) → P e → P (freq_ex q l e)
  freq-has l e h = built.nodes false (word Fun.Freq) (more_exs e (more_exs (name_ex (q l)) no_exs)) refl (h, (name-has l, tt))

  occurs-key-has : (l : ℕ) (e : Ex) (k : Key) (n : Ex) → P e → P n → P (occurs_key_ex q l e k n)
  occurs-key-has l e Key.MinOccur n h g = every-has l _ _ (word-has q P L built false Fun.ToSet e refl h) (le-has n _ g (freq-has l e h))
  occurs-key-has l e Key.MaxOccur n h g = every-has l _ _ (word-has q P L built false Fun.ToSet e refl h) (le-has _ n (freq-has l e h) g)
  occurs-key-has l e _ n h g = built.truths true

  pub occurs-have : (l : ℕ) (e : Ex) (ms : List Mark) (ns : Exs) → P e → AllHave ns → P (occurs_ex q l e ms ns)
  occurs-have l e [] ns h a = built.truths true
  occurs-have l e (flag k ∷ ms) ns h a = occurs-have l e ms ns h a
  occurs-have l e (valued k ∷ ms) no_exs h a = built.truths true
  occurs-have l e (valued k ∷ ms) (more_exs n ns) h a = and-has _ _ (occurs-key-has l e k n h a.0) (occurs-have l e ms ns h a.1)

  -- ---- parts by their numbers

  each-size-has : (l : ℕ) (e : Ex) (k : Key) (m : Ex) → P e → P m → P (each_size_ex q l e k m)
  each-size-has l e k m h g = every-has l e _ h (C.key-has q P L built k m _ g (C.bar-has q P L built (name_ex (q l)) (name-has l)))

  part-key-has : (l : ℕ) (n e : Ex) (k : Key) (m : Ex) → P n → P e → P m → P (part_key_ex q l n e k m)
  part-key-has l n e Key.NumParts m f h g = C.key-has q P L built Key.Size m n g f
  part-key-has l n e Key.MinNumParts m f h g = C.key-has q P L built Key.MinSize m n g f
  part-key-has l n e Key.MaxNumParts m f h g = C.key-has q P L built Key.MaxSize m n g f
  part-key-has l n e Key.PartSize m f h g = each-size-has l e Key.Size m h g
  part-key-has l n e Key.MinPartSize m f h g = each-size-has l e Key.MinSize m h g
  part-key-has l n e Key.MaxPartSize m f h g = each-size-has l e Key.MaxSize m h g
  part-key-has l n e _ m f h g = built.truths true

  part-sizes-have : (l : ℕ) (n e : Ex) (ks : List Mark) (ms : Exs) → P n → P e → AllHave ms → P (part_sizes_ex q l n e ks ms)
  part-sizes-have l n e [] ms f h a = built.truths true
  part-sizes-have l n e (flag k ∷ ks) ms f h a = part-sizes-have l n e ks ms f h a
  part-sizes-have l n e (valued k ∷ ks) no_exs f h a = built.truths true
  part-sizes-have l n e (valued k ∷ ks) (more_exs m ms) f h a = and-has _ _ (part-key-has l n e k m f h a.0)
      (part-sizes-have l n e ks ms f h a.1)

  -- What attributes ask of the parts of a view.
  pub part-attributes-have : (l : ℕ) (ks : List Mark) (ms : Exs) (n e : Ex) → AllHave ms → P n → P e → P (part_attributes_ex q l ks ms n e)
  part-attributes-have l ks ms n e g f h =
      and-has _ _ (part-sizes-have l n e ks ms f h g)
      (C.keys-have q P L built (regular_key_ex (one_size_ex q l e)) ks (λ k. regular-has (one_size_ex q l e) k (one-size-has l e h)))
