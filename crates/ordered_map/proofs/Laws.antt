-- The laws of any list of insertions. Assumes nothing.
use Rattle.std.proofs.Common.{◌≡◌, ℕ, suc, ◌<◌, List, [], ◌∷◌, ◌++◌, length, get_or, set, Some, None, Option, sym, refl, ap, ◌∙◌, subst, inl, inr, ⊎_elim, arith}
use Rattle.std.proofs.lemmas.List.{get_or-set_same, get_or-set_other, length-set, get_or_push, length_push, get_or_append_left, get_or_default}
use Rattle.std.proofs.lemmas.Bool.{cases_lt}
use Rattle.keyspace.specs.Positions.{At, Meets, Absent}
use Rattle.ordered_map.specs.Content.{Holds, Within, SameContent, key_of, pair_of}
use Rattle.ordered_map.specs.Maps.{Distinct, Valued, ValueOrNone}
use Rattle.ordered_map.specs.Insertions.{Inserts, After, Latest, InsertedBefore, Reordered}
use Rattle.ordered_map.specs.declared.entry.Entry.{Entry}
use Rattle.keyspace.proofs.Reading.{one_entry}
use Rattle.ordered_map.proofs.Growing.{set_meets, set_back, push_meets, push_back, push_last, distinct_push}
use Rattle.ordered_map.proofs.Orders.{at_head, at_tail, head_or_tail, distinct_head, distinct_tail, reordered_within, reordered_back, reordered_distinct}

module _ {K V W : Type 0} (means : K → W) where
  abbrev key : Entry K V → W
  key = key_of means

  -- what one insertion does to a list: the keys stay distinct, the key is there with its value, others keep theirs
  module _ (es fs : List (Entry K V)) (new : Entry K V) where
    inserts_distinct : Inserts means es new fs → Distinct key es → Distinct key fs
    inserts_distinct (inl (old, r)) d =
        let y : Entry K V = record { key = r.entry.key; value = new.value } in
        subst (λ zs. Distinct key zs) (sym r.is)
        (λ p q v mp mq. d p q v (set_back key es r.place r.entry y r.at refl p v mp) (set_back key es r.place r.entry y r.at refl q v mq))
    inserts_distinct (inr a) d = subst (λ zs. Distinct key zs) (sym a.is) (distinct_push key es new a.absent d)

    -- the key is there with its value
    inserts_new : Inserts means es new fs → Valued means fs (means new.key) new.value
    inserts_new (inl (old, r)) =
        let y : Entry K V = record { key = r.entry.key; value = new.value } in
        subst (λ zs. Valued means zs (means new.key) new.value) (sym r.is)
        (record {
          place = r.place;
          entry = y;
          at = record { within = omega (arith, r.at.within, length-set es r.place y); reads = sym (get_or-set_same es r.place y y r.at.within) };
          same = r.same;
          is = refl;
        })
    inserts_new (inr a) =
        subst (λ zs. Valued means zs (means new.key) new.value) (sym a.is)
        (record {
          place = length es;
          entry = new;
          at = record { within = omega (arith, length_push es new); reads = sym (get_or_push es new new (length es) refl) };
          same = refl;
          is = refl;
        })

    -- another key that is there was there with the same value
    inserts_other : Inserts means es new fs → (v : W) (w : V) → (means new.key ≡ v → ⊥) → Valued means fs v w → Valued means es v w
    inserts_other (inl (old, r)) v w other h =
        let y : Entry K V = record { key = r.entry.key; value = new.value } in
        let at : At (set es r.place y) h.place h.entry = subst (λ zs. At zs h.place h.entry) r.is h.at in
        let here : At (set es r.place y) r.place y = record { within = omega (arith, r.at.within, length-set es r.place y); reads = sym (get_or-set_same es r.place y y r.at.within) } in
        let apart : h.place ≡ r.place → ⊥ =
        λ e.
        let one : y ≡ h.entry = one_entry (set es r.place y) r.place y h.entry here (subst (λ i. At (set es r.place y) i h.entry) e at) in
        other (sym r.same ∙ ap key one ∙ h.same) in
        record {
          place = h.place;
          entry = h.entry;
          at = record { within = omega (arith, at.within, length-set es r.place y); reads = at.reads ∙ get_or-set_other es r.place h.place y h.entry apart };
          same = h.same;
          is = h.is;
        }
    inserts_other (inr a) v w other h =
        let at : At (es ++ new ∷ []) h.place h.entry = subst (λ zs. At zs h.place h.entry) a.is h.at in
        ⊎_elim
        (λ lt. record { place = h.place; entry = h.entry; at = record { within = lt; reads = at.reads ∙ get_or_append_left es (new ∷ []) h.entry h.place lt }; same = h.same; is = h.is })
        (λ le. absurd (other (push_last key es new h.place v le (record { entry = h.entry; at = at; same = h.same })).1))
        (cases_lt h.place (length es))

    -- a key that is not there now was not there
    inserts_none : Inserts means es new fs → (v : W) → Absent key fs v → Absent key es v
    inserts_none (inl (old, r)) v none q m =
        let y : Entry K V = record { key = r.entry.key; value = new.value } in
        none q (subst (λ zs. Meets key zs q v) (sym r.is) (set_meets key es r.place r.entry y r.at refl q v m))
    inserts_none (inr a) v none q m = none q (subst (λ zs. Meets key zs q v) (sym a.is) (push_meets key es new q v m))

  after_distinct : (news es : List (Entry K V)) → After means news es → Distinct key es
  after_distinct [] es e = subst (λ zs. Distinct key zs) (sym e) (λ p q v mp mq. absurd (omega (arith, mp.at.within)))
  after_distinct (new ∷ news) fs a = inserts_distinct a.0 fs new a.1.1 (after_distinct news a.0 a.1.0)

  one_value : (es : List (Entry K V)) → Distinct key es → (v : W) (x y : V) → Valued means es v x → Valued means es v y → x ≡ y
  one_value es d v x y a b =
      let e : a.place ≡ b.place = d a.place b.place v (record { entry = a.entry; at = a.at; same = a.same }) (record { entry = b.entry; at = b.at; same = b.same }) in
      let one : a.entry ≡ b.entry = one_entry es b.place a.entry b.entry (subst (λ i. At es i a.entry) e a.at) b.at in
      a.is ∙ ap (λ (n : Entry K V). n.value) one ∙ sym b.is

  pub found_value : (es : List (Entry K V)) (v : W) (place : ℕ) → Meets key es place v → (e : Entry K V) → Valued means es v (get_or es place e).value
  found_value es v place m e =
      record { place = place; entry = m.entry; at = m.at; same = m.same; is = ap (λ (n : Entry K V). n.value) (get_or_default es place e m.entry m.at.within ∙ sym m.at.reads) }

  -- a look-up answers the latest value
  pub latest : (news es : List (Entry K V)) → After means news es → (v : W) (r : Option V) → ValueOrNone means es v r → Latest means news v r
  latest [] es e v None h = refl
  latest [] es e v (Some w) h = absurd (omega (arith, (subst (λ zs. At zs h.place h.entry) e h.at).within))
  latest (new ∷ news) fs a v None h = (
    λ e. let n = inserts_new a.0 fs new a.1.1 in absurd (h n.place (record { entry = n.entry; at = n.at; same = n.same ∙ e })),
    λ other. latest news a.0 a.1.0 v None (inserts_none a.0 fs new a.1.1 v h),
  )
  latest (new ∷ news) fs a v (Some w) h = (
    λ e. ap Some (one_value fs (after_distinct (new ∷ news) fs a) v w new.value h (subst (λ u. Valued means fs u new.value) e (inserts_new a.0 fs new a.1.1))),
    λ other. latest news a.0 a.1.0 v (Some w) (inserts_other a.0 fs new a.1.1 v w other h),
  )

  module _ {U : Type 0} (f : Entry K V → U) (es : List (Entry K V)) (new : Entry K V) (news : List (Entry K V)) where
    push_within : Within f es news → Within f (es ++ new ∷ []) (new ∷ news)
    push_within w u h =
        ⊎_elim
        (λ lt. let k = w u (h.0, push_back f es new h.0 u lt h.1) in (suc k.0, at_tail f new news k.0 u k.1))
        (λ le. (0, at_head f new news u (push_last f es new h.0 u le h.1).1))
        (cases_lt h.0 (length es))

    within_push : Within f news es → Within f (new ∷ news) (es ++ new ∷ [])
    within_push w u h =
        ⊎_elim
        (λ a. (length es, record { entry = new; at = record { within = omega (arith, length_push es new); reads = sym (get_or_push es new new (length es) refl) }; same = a.1 }))
        (λ b. let k = w u (b.0, b.1.1) in (k.0, push_meets f es new k.0 u k.1))
        (head_or_tail f new news h.0 u h.1)

  -- the keys of the map are those that were inserted
  keys_inserted : (news es : List (Entry K V)) → After means news es → Within key es news
  keys_inserted [] es e u h = subst (λ zs. Holds key zs u) e h
  keys_inserted (new ∷ news) fs (es, (a, inl (old, r))) u h =
      let y : Entry K V = record { key = r.entry.key; value = new.value } in
      let k = keys_inserted news es a u (h.0, set_back key es r.place r.entry y r.at refl h.0 u (subst (λ zs. Meets key zs h.0 u) r.is h.1)) in
      (suc k.0, at_tail key new news k.0 u k.1)
  keys_inserted (new ∷ news) fs (es, (a, inr l)) u h = push_within key es new news (keys_inserted news es a) u (subst (λ zs. Holds key zs u) l.is h)

  keys_kept : (news es : List (Entry K V)) → After means news es → Within key news es
  keys_kept [] es e u h = subst (λ zs. Holds key zs u) (sym e) h
  keys_kept (new ∷ news) fs (es, (a, inl (old, r))) u h =
      let y : Entry K V = record { key = r.entry.key; value = new.value } in
      let there : Holds key es u = ⊎_elim
      (λ b. (r.place, record { entry = r.entry; at = r.at; same = r.same ∙ b.1 }))
      (λ b. keys_kept news es a u (b.0, b.1.1))
      (head_or_tail key new news h.0 u h.1) in
      (there.0, subst (λ zs. Meets key zs there.0 u) (sym r.is) (set_meets key es r.place r.entry y r.at refl there.0 u there.1))
  keys_kept (new ∷ news) fs (es, (a, inr l)) u h = subst (λ zs. Holds key zs u) (sym l.is) (within_push key es new news (keys_kept news es a) u h)

  one_later : (new : Entry K V) (news : List (Entry K V)) (u v : W) → InsertedBefore means news u v → InsertedBefore means (new ∷ news) u v
  one_later new news u v b = record { later = new ∷ b.later; earlier = b.earlier; split = ap (λ zs. new ∷ zs) b.split; has = b.has; lacks = b.lacks }

  -- the keys of the map stand in the order of first insertion
  pub in_order : (news es : List (Entry K V)) → After means news es → (p q : ℕ) (u v : W) → p < q → Meets key es p u → Meets key es q v → InsertedBefore means news u v
  in_order [] es e p q u v lt mp mq = absurd (omega (arith, (subst (λ zs. Meets key zs p u) e mp).at.within))
  in_order (new ∷ news) fs (es, (a, inl (old, r))) p q u v lt mp mq =
      let y : Entry K V = record { key = r.entry.key; value = new.value } in
      let back : (i : ℕ) (w : W) → Meets key fs i w → Meets key es i w =
      λ i w m. set_back key es r.place r.entry y r.at refl i w (subst (λ zs. Meets key zs i w) r.is m) in
      one_later new news u v (in_order news es a p q u v lt (back p u mp) (back q v mq))
  in_order (new ∷ news) fs (es, (a, inr l)) p q u v lt mp mq =
      let mp' : Meets key (es ++ new ∷ []) p u = subst (λ zs. Meets key zs p u) l.is mp in
      let mq' : Meets key (es ++ new ∷ []) q v = subst (λ zs. Meets key zs q v) l.is mq in
      let below : p < length es = omega (arith, mq'.at.within, length_push es new) in
      let at_p = push_back key es new p u below mp' in
      ⊎_elim
      (λ inside. one_later new news u v (in_order news es a p q u v lt at_p (push_back key es new q v inside mq')))
      (λ last.
      let is : means new.key ≡ v = (push_last key es new q v last mq').1 in
      record {
        later = new ∷ [];
        earlier = news;
        split = refl;
        has = keys_inserted news es a u (p, at_p);
        lacks = λ i m. let k = keys_kept news es a v (i, m) in l.absent k.0 (subst (λ w. Meets key es k.0 w) (sym is) k.1);
      })
      (cases_lt q (length es))

  -- an entry that stands in one list stands in the other, whatever it means
  abbrev itself : Entry K V → Entry K V
  itself e = e

  whatever : {U : Type 0} (f : Entry K V → U) (xs ys : List (Entry K V)) → Within itself xs ys → Within f xs ys
  whatever f xs ys w u h =
      let k = w h.1.entry (h.0, record { entry = h.1.entry; at = h.1.at; same = refl }) in
      (k.0, record { entry = k.1.entry; at = k.1.at; same = ap f k.1.same ∙ h.1.same })

  -- where the entries are among those inserted before, a key that is distinct from these comes last
  comes_last : (es fs : List (Entry K V)) (new : Entry K V) (news : List (Entry K V)) → Distinct key (new ∷ news) → Within itself es news → Inserts means es new fs → fs ≡ es ++ new ∷ []
  comes_last es fs new news d w (inl (old, r)) =
      let k = whatever key es news w (means new.key) (r.place, record { entry = r.entry; at = r.at; same = r.same }) in
      absurd (distinct_head key new news d k.0 k.1)
  comes_last es fs new news d w (inr a) = a.is

  -- insertions of distinct keys leave what was inserted, and nothing else
  only_inserted : (news es : List (Entry K V)) → Distinct key news → After means news es → Within itself es news
  only_inserted [] es d e u h = subst (λ zs. Holds itself zs u) e h
  only_inserted (new ∷ news) fs d a u h =
      let before = only_inserted news a.0 (distinct_tail key new news d) a.1.0 in
      push_within itself a.0 new news before u (subst (λ zs. Holds itself zs u) (comes_last a.0 fs new news d before a.1.1) h)

  all_inserted : (news es : List (Entry K V)) → Distinct key news → After means news es → Within itself news es
  all_inserted [] es d e u h = subst (λ zs. Holds itself zs u) (sym e) h
  all_inserted (new ∷ news) fs d a u h =
      let rest = distinct_tail key new news d in
      let last = comes_last a.0 fs new news d (only_inserted news a.0 rest a.1.0) a.1.1 in
      subst (λ zs. Holds itself zs u) (sym last) (within_push itself a.0 new news (all_inserted news a.0 rest a.1.0) u h)

  -- in whatever order
  any_order : (news mews es fs : List (Entry K V)) → Distinct key news → Reordered news mews → After means news es → After means mews fs → Within itself es fs
  any_order news mews es fs d r a b u h =
      all_inserted mews fs (reordered_distinct key r d) b u (reordered_within itself r u (only_inserted news es d a u h))

  pub same_content : {L : Type 0} (value : V → L) (news mews es fs : List (Entry K V)) → Distinct key news → Reordered news mews → After means news es → After means mews fs → SameContent means value es fs
  same_content value news mews es fs d r a b =
      record {
        there = whatever (pair_of means value) es fs (any_order news mews es fs d r a b);
        back = whatever (pair_of means value) fs es (any_order mews news fs es (reordered_distinct key r d) (reordered_back r) b a);
      }
