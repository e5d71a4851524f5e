-- What the attributes of a partition ask of the number of its parts and of the parts that a view has.
use Rattle.std.proofs.Common.{◌≡◌, refl, sym, ap, ◌∙◌, ℕ, ◌<◌, true, false, List, [], ◌∷◌, length, ℤ, pos, Some}
use Rattle.std.specs.List.{list_all}
use Rattle.ess_semantics.specs.declared.words.Key.{Key}
use Rattle.ess_semantics.specs.declared.words.Op1.{Op1}
use Rattle.ess_semantics.specs.Values.{Text, Value, truth, items_of}
use Rattle.ess_semantics.specs.Order.{same_text}
use Rattle.ess_semantics.specs.Trees.{Mark, flag, valued, Ex, Exs, no_exs, more_exs, name_ex, Dom, ex1}
use Rattle.ess_semantics.specs.Domains.{Attribute, numbered, Domain, members, member_list}
use Rattle.ess_semantics.specs.Attributes.{each_holds, each_number_holds, part_sizes, partition_holds, partition_attributes_hold, parts_hold, size_holds}
use Rattle.ess_semantics.specs.Meaning.{Env, meaning, meanings}
use Rattle.ess_semantics.proofs.Connectives.{and-means}
use Rattle.ess_repr_laws.specs.Finite.{Complete}
use Rattle.ess_repr_laws.specs.StructureParts.{Terms, and_ex, key_ex, keys_ex}
use Rattle.ess_repr_laws.specs.StructureMeaning.{Number, Bound, M, AxesAre, Attributes}
use Rattle.ess_repr_laws.specs.PartitionParts.{each_size_ex, part_key_ex, part_sizes_ex}
use Rattle.ess_repr_laws.specs.ViewParts.{one_size_ex, regular_key_ex}
use Rattle.ess_repr_laws.proofs.CanonicalPlaces.{AllOf, all-of-map}
use Rattle.ess_repr_laws.proofs.OnceHeld.{SetOf}
use Rattle.ess_repr_laws.proofs.SlotsUsed.{all-map}
use Rattle.ess_repr_laws.proofs.StructureConversions.{flags-means, all-flags}
use Rattle.ess_repr_laws.proofs.StructureCounts.{valued-first, flagged-first, valued-some, flagged-some}
use Rattle.ess_repr_laws.proofs.StructureKeys.{attributes-apart}
use Rattle.ess_repr_laws.proofs.StructureNumbers.{key-means}
use Rattle.ess_repr_laws.proofs.StructurePartitions.{bar-means, regular-key-means}
use Rattle.ess_repr_laws.proofs.StructureRows.{looked}
use Rattle.ess_repr_laws.proofs.ViewsOfCells.{Stands, every-item-means}

module _ (env0 : Env) (q : ℕ → Text) (q-apart : (m l : ℕ) → l < m → same_text (q m) (q l) ≡ false) (terms : Terms)
    (d : Dom) (x : Domain) (me : members x ≡ Some (member_list x)) (full : Complete x) (ax : AxesAre env0 q q-apart (d ∷ [])
    (member_list x ∷ []))
    (l : ℕ) (bs : Bound env0 q q-apart) (e : Ex) (v : Value) (st : Stands env0 q q-apart l e v bs) (parts : AllOf (items_of v) (SetOf x))
    (n : Ex) (many : Number n (M env0 q q-apart bs) (pos (length (items_of v)))) where
  abbrev N : Bound env0 q q-apart → Env
  N = M env0 q q-apart

  abbrev ps : List Value
  ps = items_of v

  -- The size of each part.
  each-size-means : (k : Key) (m : Ex) (z : ℤ) → ((cs : Bound env0 q q-apart) → Number m (N cs) z) →
      meaning (each_size_ex q l e k m) (N bs) ≡ Some (truth (list_all (size_holds k z) (part_sizes ps)))
  each-size-means k m z h =
      every-item-means env0 q q-apart l e bs v (key_ex k m (ex1 false Op1.Bar (name_ex (q l)))) (λ p. size_holds k z (length (items_of p)))
      (st [] tt)
      (all-of-map ps (SetOf x)
      (λ p. meaning (key_ex k m (ex1 false Op1.Bar (name_ex (q l)))) (N ((l, p) ∷ bs)) ≡ Some
      (truth (size_holds k z (length (items_of p)))))
      (λ p s. key-means (N ((l, p) ∷ bs)) k m (ex1 false Op1.Bar (name_ex (q l))) z (length (items_of p)) (h ((l, p) ∷ bs))
      (bar-means env0 q q-apart terms d x me full ax l bs e v st parts l p ((l, p) ∷ bs) s (looked env0 q q-apart l p bs [] tt))) parts)
      ∙ ap (λ b. Some (truth b)) (sym (all-map (size_holds k z) (λ p. length (items_of p)) ps))

  -- One attribute with a number.
  part-key-means : (k : Key) (m : Ex) (z : ℤ) → ((cs : Bound env0 q q-apart) → Number m (N cs) z) →
      meaning (part_key_ex q l n e k m) (N bs) ≡ Some (truth (partition_holds k z ps))
  part-key-means Key.NumParts m z h = key-means (N bs) Key.Size m n z (length ps) (h bs) many
  part-key-means Key.MinNumParts m z h = key-means (N bs) Key.MinSize m n z (length ps) (h bs) many
  part-key-means Key.MaxNumParts m z h = key-means (N bs) Key.MaxSize m n z (length ps) (h bs) many
  part-key-means Key.PartSize m z h = each-size-means Key.Size m z h
  part-key-means Key.MinPartSize m z h = each-size-means Key.MinSize m z h
  part-key-means Key.MaxPartSize m z h = each-size-means Key.MaxSize m z h
  part-key-means _ m z h = refl

  -- All of them.
  sizes-mean : (ms : List Mark) (es : Exs) (ks : List Attribute) → Attributes env0 q q-apart terms ms es ks →
      meaning (part_sizes_ex q l n e ms es) (N bs) ≡ Some (truth (each_number_holds ks (λ k z. partition_holds k z ps)))
  sizes-mean [] no_exs [] at = refl
  sizes-mean [] no_exs (a ∷ ks) at = let x = at bs in let y = x.1 in cc
  sizes-mean [] (more_exs m es) ks at = let x = at bs in let y = x.1 in cc
  sizes-mean (flag k ∷ ms) es [] at = let x = at bs in absurd (flagged-some k ms (meanings es (N bs)) x.1)
  sizes-mean (flag k ∷ ms) es (a ∷ ks) at =
      let x = at bs in
      let f = flagged-first k ms (meanings es (N bs)) a ks x.1 in
      sizes-mean ms es ks (λ cs. let y = at cs in let g = flagged-first k ms (meanings es (N cs)) a ks y.1 in (y.0, g.1))
      ∙ ap (λ a. Some (truth (each_number_holds (a ∷ ks) (λ k z. partition_holds k z ps)))) (sym f.0)
  sizes-mean (valued k ∷ ms) no_exs ks at = let x = at bs in let y = x.1 in cc
  sizes-mean (valued k ∷ ms) (more_exs m es) [] at = let x = at bs in absurd (valued-some k ms (meaning m (N bs)) (meanings es (N bs)) x.1)
  sizes-mean (valued k ∷ ms) (more_exs m es) (a ∷ ks) at =
      let x = at bs in
      let f = valued-first k ms (meaning m (N bs)) (meanings es (N bs)) a ks x.1 in
      and-means (N bs) (part_key_ex q l n e k m) (part_sizes_ex q l n e ms es) (partition_holds k f.0 ps)
      (each_number_holds ks (λ k z. partition_holds k z ps))
      (part-key-means k m f.0 (λ cs. let y = at cs in let g = valued-first k ms (meaning m (N cs)) (meanings es (N cs)) a ks y.1 in
      y.0.0 f.0 (g.1 ∙ ap Some (same-number k g.0 f.0 (sym g.2 ∙ f.2)))))
      (sizes-mean ms es ks (λ cs. let y = at cs in let g = valued-first k ms (meaning m (N cs)) (meanings es (N cs)) a ks y.1 in
      (y.0.1, g.3)))
      ∙ ap (λ a. Some (truth (each_number_holds (a ∷ ks) (λ k z. partition_holds k z ps)))) (sym f.2)
    where
      same-number : (k : Key) (x y : ℤ) → numbered k x ≡ numbered k y → x ≡ y
      same-number k x y e = cc

  -- What all attributes ask of the parts.
  pub part-attributes-mean : (ms : List Mark) (es : Exs) (ks : List Attribute) → Attributes env0 q q-apart terms ms es ks →
      meaning (and_ex (part_sizes_ex q l n e ms es) (keys_ex (regular_key_ex (one_size_ex q l e)) ms)) (N bs) ≡ Some
      (truth (partition_attributes_hold ks ps))
  part-attributes-mean ms es ks at =
      let now = at bs in
      and-means (N bs) (part_sizes_ex q l n e ms es) (keys_ex (regular_key_ex (one_size_ex q l e)) ms)
      (each_number_holds ks (λ k z. partition_holds k z ps)) (each_holds ks (λ k z. true) (λ k. parts_hold k ps)) (sizes-mean ms es ks at)
      (flags-means (N bs) (regular_key_ex (one_size_ex q l e)) (λ k. parts_hold k ps) ms (meanings es (N bs)) ks now.1
      (all-flags (λ k. meaning (regular_key_ex (one_size_ex q l e) k) (N bs) ≡ Some (truth (parts_hold k ps))) ks
      (regular-key-means env0 q q-apart terms d x me full ax l bs e v st parts)))
      ∙ ap (λ b. Some (truth b)) (sym (attributes-apart ks (λ k z. partition_holds k z ps) (λ k. parts_hold k ps)))
