-- The folded rules hold exactly where the rules of all capability records do.
use Rattle.std.specs.Prelude.{◌%◌, ◌*◌, ◌+◌, ◌-◌, ◌/◌, ◌<◌, ◌≤◌, ℕ, suc, zero, leb, get_or, length, ◌&&◌, Bool, false, List, ◌≡◌, ◌⊎◌}
use Rattle.std.proofs.Common.{le-leb, leb-true, ne_eqb, true≢false, inl, inr, ⊎_elim, ◌∙◌, ap, subst, sym}
use Rattle.std.proofs.Math.Bool.{true}
use Rattle.std.specs.Prelude.{None, Some}
use Rattle.std.proofs.Math.Path.{refl}
use Rattle.std.proofs.Math.Decide.{dec_le, ℕ_discrete}
use native.Mathlib.Omega.{arith}
use Rattle.model.proofs.Laws.Done.{kind-of}
use Rattle.model.specs.Scripts.{kind_of}
use Rattle.model.proofs.Laws.Bit.{zero_bit}
use Rattle.model.proofs.Laws.Bytes.{at-decode, valid-wf}
use Rattle.model.proofs.Laws.Booleans.{and_left, and-make, and_right, is_false, never}
use Rattle.model.proofs.Laws.Sets.{Narrow}
use Rattle.model.proofs.Laws.Updates.{at-over, at-root}
use Rattle.model.proofs.Laws.WellFormed.{WellFormed, shape-label, shape-named}
use Rattle.model.specs.Validity.{label_in, name_by, name_right, shape, validity}
use Rattle.model.specs.Records.{at, capability, count, decode, is_ambient, nested}
use Rattle.model.specs.Refusals.{pass}
use Rattle.model.specs.Tables.{parts, place_h, place_i, place_s, test_bit}
use Rattle.model.specs.declared.Rec.{Rec}
use Rattle.table_partners.specs.Partners.{AddedTo, AllAdded, Partners, PartnersAdded, TargetedBy, Targets, borne, in_h, is_capability, slot}
use Rattle.table_partners.specs.Rules.{RuleOf, RulesClosed}
use Rattle.tables.specs.Grow.{Set}
use Rattle.model.specs.declared.Capability.{Capability}
use Rattle.model.specs.declared.Capability.TheVariants.{In as cap-in, Open as cap-open, Out as cap-out}
use Rattle.table_words.specs.Adds.{Adds, adds-as, adds-next, adds_none, adds-or}
use Rattle.table_words.specs.Transposes.{Transposed, transposed-bit}
use Rattle.table_words.specs.BitSets.{at-word, below_64, or_at}

-- ---- a capability of the right form

pub cap-bounds : (r : Rec) → is_capability r ≡ true → (2 ≤ r.kind) × (r.kind ≤ 4)
unfolding is_capability
cap-bounds r c = (leb-true 2 r.kind (and_left _ _ c), leb-true r.kind 4 (and_right (leb 2 r.kind) _ c))

pub record CapabilityForm (r : Rec) : Type 0 where
  pub low : 64 ≤ r.label
  pub high : r.label < 128
  pub name : r.name < 64

pub capability-form : (r : Rec) → shape r ≡ true → is_capability r ≡ true → CapabilityForm r
unfolding nested is_ambient label_in name_right name_by
capability-form r h c =
    let k = cap-bounds r c in
    let n : nested r ≡ true = and-make (le-leb 1 r.kind (omega arith)) (le-leb r.kind 4 k.1) in
    let a : is_ambient r ≡ false = ne_eqb r.kind 1 (λ e. omega arith) in
    let b : label_in false r.label ≡ true = rw a at (shape-label r h n) in
    let m : name_by true r.name ≡ true = rw n at (shape-named r h) in
    let p = leb-true 64 r.label (and_left _ _ b) in
    let q = leb-true r.label 127 (and_right (leb 64 r.label) _ b) in
    let s = leb-true r.name 63 m in
    record { low = p; high = omega arith; name = omega arith }

-- a record of a valid itinerary, as it is read
pub read-shape : (s : List ℕ) (i : ℕ) (r : Rec) → validity s ≡ pass → i ≤ count s → r ≡ decode s i → shape r ≡ true
read-shape s i r v l e = rw (e ∙ sym (at-decode s i l)) ((valid-wf s v).shaped i)

pub cap-is : (r : Rec) (k : Capability) → capability r.kind ≡ Some k → is_capability r ≡ true
unfolding is_capability kind_of
cap-is r cap-in e = rw (kind-of r.kind cap-in e)
cap-is r cap-out e = rw (kind-of r.kind cap-out e)
cap-is r cap-open e = rw (kind-of r.kind cap-open e)

cap-none : (x : ℕ) → capability x ≡ None → (leb 2 x && leb x 4) ≡ false
unfolding capability
cap-none zero e = refl
cap-none (suc zero) e = refl
cap-none (suc (suc zero)) e = let u : ◌≡◌ {A = ℕ} 0 1 = cc in absurd (omega arith)
cap-none (suc (suc (suc zero))) e = let u : ◌≡◌ {A = ℕ} 0 1 = cc in absurd (omega arith)
cap-none (suc (suc (suc (suc zero)))) e = let u : ◌≡◌ {A = ℕ} 0 1 = cc in absurd (omega arith)
cap-none (suc (suc (suc (suc (suc k))))) e = is_false _ (λ t. let a = leb-true (suc (suc (suc (suc (suc k))))) 4 (and_right (leb 2 (suc (suc (suc (suc (suc k)))))) _ t) in omega arith)

-- where a capability's word lies: label - 64 from the first word of its kind
pub record Found (r : Rec) (i : ℕ) : Type 0 where
  pub capable : is_capability r ≡ true
  pub low : 64 ≤ r.label
  pub name : r.name < 64
  pub here : slot r ≡ i
  pub below : i < 192

pub found : (r : Rec) (k : Capability) (first : ℕ) → shape r ≡ true → capability r.kind ≡ Some k → first ≡ 64 * (kind_of k - 2) → Found r (first + (r.label - 64))
unfolding slot
found r k first h e b =
    let c = cap-is r k e in
    let f = capability-form r h c in
    let m = cap-bounds r c in
    let n = kind-of r.kind k e in
    let l = f.low in
    let g = f.high in
    record { capable = c; low = l; name = f.name; here = rw (b, ← n) refl; below = omega arith }

-- ---- the partners of one record

pub added_none : (H : ℕ → ℕ → Bool) (r : Rec) (p : List ℕ) → capability r.kind ≡ None → PartnersAdded H r p p
unfolding is_capability
added_none H r p h = adds_none (λ i b a. never _ a.capable (cap-none r.kind h))

pub added-one : (bearers : List ℕ) (r : Rec) (p : List ℕ) (i : ℕ) → Narrow 64 bearers → Found r i → i < length p → PartnersAdded (borne bearers) r p (or_at p i (get_or bearers r.name 0))
added-one bearers r p i h f l = adds-as (adds-or p i (get_or bearers r.name 0) l) (λ j b a. (sym a.here ∙ f.here, a.names))
    (λ j b a. record { capable = f.capable; here = f.here ∙ sym a.0; below = below_64 (get_or bearers r.name 0) b (h r.name) a.1; names = a.1 })

-- ---- all records

-- a record that targets is one of those there are
pub targeted-in : {its : List Rec} {H : ℕ → ℕ → Bool} {i b : ℕ} (s : TargetedBy its H i b) → s.from ≤ length its
targeted-in {its} s = go (dec_le s.from (length its))
  where
    go : Dec (s.from ≤ length its) → s.from ≤ length its
    go (yes l) = l
    go (no l) = let k = cap-bounds _ s.targets.capable in absurd (omega (arith, k.0, ap (λ (r : Rec). r.kind) (at-over its s.from (omega arith))))

module _ (its : List Rec) (H : ℕ → ℕ → Bool) where
  pub added-start : (p : List ℕ) → AddedTo its H 0 p p
  added-start p = adds_none (λ i b q.
      let k = cap-bounds _ q.0.targets.capable in
      let e : (at its q.0.from).kind ≡ 0 = ap (λ (r : Rec). r.kind) (ap (at its) (omega (arith, q.1)) ∙ at-root its) in
      omega arith)

  pub added-next : (n : ℕ) {p p₁ p₂ : List ℕ} (r : Rec) → r ≡ at its (n + 1) → AddedTo its H n p p₁ → PartnersAdded H r p₁ p₂ → AddedTo its H (n + 1) p p₂
  added-next n r e f a = adds-next f a (λ i b q. go i b q (ℕ_discrete q.0.from (n + 1))) (λ i b m. record { from = n + 1; targets = subst (λ (x : Rec). Targets H x i b) e m })
    where
      go : (i b : ℕ) (q : (s : TargetedBy its H i b) × (s.from ≤ n + 1)) → Dec (q.0.from ≡ n + 1) → ((s : TargetedBy its H i b) × (s.from ≤ n)) ⊎ Targets H r i b
      go i b q (yes x) = inr (subst (λ (y : Rec). Targets H y i b) (ap (at its) x ∙ sym e) q.0.targets)
      go i b q (no x) = inl (q.0, omega (arith, q.1))

-- words that were clear hold no others
pub partners-of : {its : List Rec} {H : ℕ → ℕ → Bool} {p p' : List ℕ} (n : ℕ) → ((i : ℕ) → get_or p i 0 ≡ 0) → AllAdded its H p p' → Partners its H n p'
partners-of n z a = record {
  has = λ j i b l m. a.has i b (record { from = j; targets = m });
  only = λ i b t. ⊎_elim (λ s. absurd (true≢false (sym s ∙ ap (λ (x : ℕ). test_bit x b) (z i) ∙ zero_bit b))) (λ s. s) (a.only i b t);
}

-- H of the table w, transposed into the clear words z
module _ {its : List Rec} (wf : WellFormed its) (w z bearers : List ℕ) (zero : (i : ℕ) → get_or z i 0 ≡ 0) (a : Adds (Transposed w 128 1 64) (Transposed w 128 1 64) z bearers) where
  names-word : (b n : ℕ) → n < 64 → in_h w b n ≡ test_bit (get_or w (128 + 1 * b) 0) n
  unfolding place_h
  names-word b n h = at-word w (128 + 1 * b) n (8192 + (64 * b + n)) h (omega arith)

  pub added-end : (n : ℕ) {p p' : List ℕ} → length its ≤ n → AddedTo its (borne bearers) n p p' → AllAdded its (in_h w) p p'
  added-end n l f = adds-as f
      (λ i b s.
      let m = s.targets in
      let h = (capability-form (at its s.from) (wf.shaped s.from) m.capable).name in
      let t : Targets (borne bearers) (at its s.from) i b = record { capable = m.capable; here = m.here; below = m.below; names = a.has _ b (record { label = h; below = m.below; bit = sym (names-word b _ h) ∙ m.names }) } in
      (record { from = s.from; targets = t }, omega (arith, l, targeted-in s)))
      (λ i b s.
      let m = s.targets in
      let o = transposed-bit w 128 1 z bearers zero a _ b m.names in
      record { from = s.from; targets = record { capable = m.capable; here = m.here; below = m.below; names = names-word b _ o.label ∙ o.bit } })

-- ---- the rules

pub kind-cap : (x : ℕ) (k : Capability) → x ≡ kind_of k → capability x ≡ Some k
unfolding capability kind_of
kind-cap x cap-in e = rw e
kind-cap x cap-out e = rw e
kind-cap x cap-open e = rw e

-- where its word lies tells a capability's kind and label
module _ (r : Rec) (f : CapabilityForm r) (c : is_capability r ≡ true) (i : ℕ) (e : slot r ≡ i) where
  pub slot-kind : 2 + i / 64 ≡ r.kind
  unfolding slot
  slot-kind = let k = cap-bounds r c in let a = f.low in let b = f.high in omega arith

  pub slot-label : 64 + i % 64 ≡ r.label
  unfolding slot
  slot-label = let k = cap-bounds r c in let a = f.low in let b = f.high in omega arith

module _ {its : List Rec} (wf : WellFormed its) (H : ℕ → ℕ → Bool) (n : ℕ) (p : List ℕ) (F : Partners its H n p) (u : Set) where
  -- the rules of the words give those of the records
  pub closed-rule : ((b x : ℕ) → b < 64 → x < 64 → (parts u).H b x ≡ true → H b x ≡ true) → RulesClosed p u →
      (j : ℕ) (k : Capability) → j ≤ n → capability (at its j).kind ≡ Some k → RuleOf its u k j
  unfolding slot kind_of place_i place_s
  closed-rule sub C j k l e = go k e
    where
      capable : is_capability (at its j) ≡ true
      capable = cap-is (at its j) k e

      able : CapabilityForm (at its j)
      able = capability-form (at its j) (wf.shaped j) capable

      t : ℕ
      t = (at its j).label - 64

      below : t < 64
      below = let h = able.high in omega arith

      stands : (a : ℕ) → u (128 * a + (at its j).label) ≡ true → u (128 * a + (64 + t)) ≡ true
      stands a q = let m = able.low in let r : 64 + t ≡ (at its j).label = omega arith in ap (λ (x : ℕ). u (128 * a + x)) r ∙ q

      bears : (i b : ℕ) → slot (at its j) ≡ i → b < 64 → (parts u).H b (at its j).name ≡ true → test_bit (get_or p i 0) b ≡ true
      bears i b q lb h = F.has j i b l (record { capable = capable; here = q; below = lb; names = sub b (at its j).name lb able.name h })

      go : (k : Capability) → capability (at its j).kind ≡ Some k → RuleOf its u k j
      go cap-in q = λ a b x la lb lx may ia ixa ixb hb. let k = kind-of _ cap-in q in C.ins t a b x below la lb lx (stands a ia) ixa ixb (bears t b (omega arith) lb hb)
      go cap-out q = λ a b x la lb lx may ia iba ixb hb. let k = kind-of _ cap-out q in C.outs t a b x below la lb lx (stands a ia) iba ixb (bears (64 + t) b (omega arith) lb hb)
      go cap-open q = λ b x lb lx may ix ixb hb. let k = kind-of _ cap-open q in C.opens t b x below lb lx (stands x ix) ixb (bears (128 + t) b (omega arith) lb hb)

  -- the rules of all records give those of the words
  pub rules-closed : ((b x : ℕ) → b < 64 → x < 64 → H b x ≡ true → (parts u).H b x ≡ true) →
      ((j : ℕ) (k : Capability) → capability (at its j).kind ≡ Some k → RuleOf its u k j) → RulesClosed p u
  unfolding kind_of place_i place_s
  rules-closed sub f = record {
    ins = λ t a b x lt la lb lx ia ixa ixb bn.
        let s = F.only t b bn in
        rule s cap-in (omega arith) a b x la lb lx refl (stands s a t (omega arith) ia) ixa ixb (bears s);
    outs = λ t a b x lt la lb lx ia iba ixb bn.
        let s = F.only (64 + t) b bn in
        rule s cap-out (omega arith) a b x la lb lx refl (stands s a t (omega arith) ia) iba ixb (bears s);
    opens = λ t b x lt lb lx ix ixb bn.
        let s = F.only (128 + t) b bn in
        rule s cap-open (omega arith) b x lb lx refl (stands s x t (omega arith) ix) ixb (bears s);
  }
    where
      able : {i b : ℕ} (s : TargetedBy its H i b) → CapabilityForm (at its s.from)
      able s = capability-form (at its s.from) (wf.shaped s.from) s.targets.capable

      stands : {i b : ℕ} (s : TargetedBy its H i b) (a t : ℕ) → t ≡ i % 64 → u (128 * a + (64 + t)) ≡ true → u (128 * a + (at its s.from).label) ≡ true
      stands {i} s a t e q = ap (λ (x : ℕ). u (128 * a + x)) (sym (slot-label (at its s.from) (able s) s.targets.capable i s.targets.here) ∙ ap (λ (x : ℕ). 64 + x) (sym e)) ∙ q

      bears : {i b : ℕ} (s : TargetedBy its H i b) → (parts u).H b (at its s.from).name ≡ true
      bears {i} {b} s = sub b (at its s.from).name s.targets.below (able s).name s.targets.names

      rule : {i b : ℕ} (s : TargetedBy its H i b) (k : Capability) → 2 + i / 64 ≡ kind_of k → RuleOf its u k s.from
      rule {i} s k e = f s.from k (kind-cap _ k (sym (slot-kind (at its s.from) (able s) s.targets.capable i s.targets.here) ∙ e))
