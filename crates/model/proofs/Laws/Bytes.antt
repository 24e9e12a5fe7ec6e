-- Records as bytes and back; validation of the bytes and well-formed records.
use Prim.Native.Nat.{◌%◌, ◌*◌, ◌+◌, ◌/◌, ◌<◌, ◌≤◌, suc, zero, ℕ}
use Rattle.std.proofs.Common.{eq-eqb, eqb-true, le-leb, leb-true, ne_eqb, ◌∙◌, ap, suc-add, zero-add, arith}
use Rattle.std.proofs.lemmas.Bool.{eqb-false, not-true}
use Rattle.std.proofs.Math.Dec.{eqb}
use Rattle.std.specs.Prelude.{leb, get_or, Bool, ◌&&◌, List, [], ◌∷◌, ◌≢◌, ◌≡◌}
use Rattle.std.proofs.Math.ListN.{get_or-eq_default, length}
use Rattle.std.proofs.Math.Seq.{ext_get_or}
use Rattle.std.proofs.Math.Bool.{false, not, true}
use Rattle.std.proofs.Math.Path.{refl, sym}
use Rattle.std.proofs.Math.Decide.{dec_le}
use Rattle.model.specs.Climbing.{reaches}
use Rattle.model.proofs.Laws.Checks.{each-make, each-pass, need-make, need-pass, need-refuse, then-make, then-pass, then-refuse}
use Rattle.model.proofs.Laws.Booleans.{and_left, and-make, and_right}
use Rattle.model.proofs.Laws.Finite.{get_d_tabulate, length-tabulate}
use Rattle.model.proofs.Laws.Forest.{Depth, depth_le, root, under_of}
use Rattle.model.proofs.Laws.Updates.{at-over, at-root}
use Rattle.model.proofs.Laws.Views.{depth-reaches, reaches-depth}
use Rattle.model.proofs.Laws.WellFormed.{Alive, WellFormed, alive-in, parent_in, shape-client, shape-labelled, shape-make, shape-named}
use Rattle.model.specs.Validity.{blank, client_right, climb_check, form, gone_right, kind_right, label_by, label_right, name_by, name_right, parent_right, record_check, shape, size_right, spare_right, validity}
use Rattle.model.specs.Records.{at, byte, byte_of, count, decode, encode, gone, nested, parent_of, records}
use Rattle.model.specs.Refusals.{pass, refuse}
use Rattle.model.specs.declared.Rec.{Rec}

pub rec-path : (r r' : Rec) → r.kind ≡ r'.kind → r.label ≡ r'.label → r.name ≡ r'.name → r.parent ≡ r'.parent → r.client ≡ r'.client → r ≡ r'
rec-path r r' p q u v w = λ i. record { kind = p i; label = q i; name = u i; parent = v i; client = w i }

pub length-records : (s : List ℕ) → length (records s) ≡ count s
unfolding records
length-records s = length-tabulate (decode s) 1 (count s)

-- record i of the bytes, for every number up to the count
pub at-decode : (s : List ℕ) (i : ℕ) → i ≤ count s → at (records s) i ≡ decode s i
unfolding at records decode byte_of
at-decode s zero h = refl
at-decode s (suc i) h = get_d_tabulate (decode s) 1 (count s) i gone h ∙ ap (decode s) (suc-add 0 i ∙ ap suc (zero-add i))

-- and for every number at all, where the bytes are whole records
pub at-whole : (s : List ℕ) → length s % 8 ≡ 0 → (i : ℕ) → at (records s) i ≡ decode s i
unfolding decode byte_of count
at-whole s m zero = at-decode s 0 (omega arith)
at-whole s m (suc i) = go (dec_le (suc i) (count s))
  where
    past : length s ≤ 8 * i → (k : ℕ) → byte s (8 * i + k) ≡ 0
    past h k = get_or-eq_default s 0 (omega arith)

    go : Dec (suc i ≤ count s) → at (records s) (suc i) ≡ decode s (suc i)
    go (yes l) = at-decode s (suc i) l
    go (no l) =
        let h : length s ≤ 8 * i = omega arith in
        at-over (records s) (suc i) (omega (arith, length-records s)) ∙ sym (rec-path (decode s (suc i)) gone (past h 0) (past h 1) (past h 2) (rw (past h 4, past h 5)) (rw (past h 6, past h 7)))

-- the bytes of records
pub length-encode : (its : List Rec) → length (encode its) ≡ 8 * length its
unfolding encode
length-encode [] = refl
length-encode (r ∷ rs) = omega (arith, length-encode rs)

pub count-encode : (its : List Rec) → count (encode its) ≡ length its
unfolding count
count-encode its = omega (arith, length-encode its)

-- byte k of record i of encoded records
unfoldable pub byte_in : Rec → ℕ → ℕ
byte_in r zero = r.kind
byte_in r (suc zero) = r.label
byte_in r (suc (suc zero)) = r.name
byte_in r (suc (suc (suc zero))) = 0
byte_in r (suc (suc (suc (suc zero)))) = r.parent % 256
byte_in r (suc (suc (suc (suc (suc zero))))) = r.parent / 256
byte_in r (suc (suc (suc (suc (suc (suc zero)))))) = r.client % 256
byte_in r (suc (suc (suc (suc (suc (suc (suc zero))))))) = r.client / 256
byte_in r (suc (suc (suc (suc (suc (suc (suc (suc k)))))))) = 0

pub byte-encode : (its : List Rec) (i k : ℕ) → i < length its → k < 8 → byte (encode its) (8 * i + k) ≡ byte_in (get_or its i gone) k
unfolding encode byte_in
byte-encode [] i k h l = absurd (omega arith)
byte-encode (r ∷ rs) zero zero h l = refl
byte-encode (r ∷ rs) zero (suc zero) h l = refl
byte-encode (r ∷ rs) zero (suc (suc zero)) h l = refl
byte-encode (r ∷ rs) zero (suc (suc (suc zero))) h l = refl
byte-encode (r ∷ rs) zero (suc (suc (suc (suc zero)))) h l = refl
byte-encode (r ∷ rs) zero (suc (suc (suc (suc (suc zero))))) h l = refl
byte-encode (r ∷ rs) zero (suc (suc (suc (suc (suc (suc zero)))))) h l = refl
byte-encode (r ∷ rs) zero (suc (suc (suc (suc (suc (suc (suc zero))))))) h l = refl
byte-encode (r ∷ rs) zero (suc (suc (suc (suc (suc (suc (suc (suc k)))))))) h l = absurd (omega arith)
byte-encode (r ∷ rs) (suc i) k h l =
    let e : 8 * suc i + k ≡ suc (suc (suc (suc (suc (suc (suc (suc (8 * i + k)))))))) = omega arith in
    rw e (byte-encode rs i k (omega arith) l)

pub decode-encode : (its : List Rec) (i : ℕ) → i < length its → decode (encode its) (suc i) ≡ get_or its i gone
unfolding decode byte_of byte_in
decode-encode its i h =
    rec-path _ _ (byte-encode its i 0 h (omega arith)) (byte-encode its i 1 h (omega arith)) (byte-encode its i 2 h (omega arith))
    (rw (byte-encode its i 4 h (omega arith), byte-encode its i 5 h (omega arith)) (omega arith))
    (rw (byte-encode its i 6 h (omega arith), byte-encode its i 7 h (omega arith)) (omega arith))

pub records-encode : (its : List Rec) → records (encode its) ≡ its
unfolding records
records-encode its = ext_get_or gone _ its (length-records (encode its) ∙ count-encode its)
    (λ i h. let l : i < count (encode its) = omega (arith, length-records (encode its)) in
    get_d_tabulate (decode (encode its)) 1 (count (encode its)) i gone l
    ∙ ap (decode (encode its)) (suc-add 0 i ∙ ap suc (zero-add i))
    ∙ decode-encode its i (omega (arith, count-encode its)))

-- what the check of a record says of it
record Good (s : List ℕ) (r : Rec) : Type 0 where
  gones : r.kind ≡ 0 → r ≡ gone
  shaped : shape r ≡ true
  par : parent_right s r.parent ≡ true

gone-right : (r : Rec) → gone_right r ≡ true → r.kind ≡ 0 → r ≡ gone
unfolding gone_right blank
gone-right r h k =
    let w : blank true r ≡ true = rw (eq-eqb _ _ k) at h in
    let v = and_right (eqb r.label 0) _ w in
    let u = and_right (eqb r.name 0) _ v in
    rec-path r gone k (eqb-true _ _ (and_left _ _ w)) (eqb-true _ _ (and_left _ _ v)) (eqb-true _ _ (and_left _ _ u)) (eqb-true _ _ (and_right (eqb r.parent 0) _ u))

pub record Sound (s : List ℕ) (i : ℕ) : Type 0 where
  pub kinds : kind_right (decode s i) ≡ true
  pub spares : spare_right s i ≡ true
  pub clients : client_right (decode s i) ≡ true
  pub gones : gone_right (decode s i) ≡ true
  pub labels : label_right (decode s i) ≡ true
  pub names : name_right (decode s i) ≡ true
  pub parents : parent_right s (decode s i).parent ≡ true

pub sound-record : (s : List ℕ) (i : ℕ) → record_check s i ≡ pass → Sound s i
unfolding record_check
sound-record s i h =
    let c = then-pass _ _ h in
    let b = then-pass _ _ c.0 in
    let a = then-pass _ _ b.0 in
    let e = need-pass _ 2 i a.0 in
    let f = and_right (kind_right (decode s i)) _ e in
    let g = and_right (spare_right s i) _ f in
    record {
      kinds = and_left _ _ e;
      spares = and_left _ _ f;
      clients = and_left _ _ g;
      gones = and_right (client_right (decode s i)) _ g;
      labels = need-pass _ 3 i a.1;
      names = need-pass _ 4 i b.1;
      parents = need-pass _ 5 i c.1;
    }

pub record-sound : (s : List ℕ) (i : ℕ) → Sound s i → record_check s i ≡ pass
unfolding record_check
record-sound s i w =
    then-make
    (then-make (then-make (need-make 2 i (and-make w.kinds (and-make w.spares (and-make w.clients w.gones)))) (need-make 3 i w.labels)) (need-make 4 i w.names))
    (need-make 5 i w.parents)

good-record : (s : List ℕ) (i : ℕ) → Sound s i → Good s (decode s i)
good-record s i w = record { gones = gone-right _ w.gones; shaped = shape-make _ w.kinds w.labels w.names w.clients; par = w.parents }

good-gone : (s : List ℕ) → Good s gone
unfolding parent_right shape label_right kind_right name_right client_right nested label_by name_by
good-gone s = record { gones = λ _. refl; shaped = refl; par = refl }

-- what validation says
pub record Passed (s : List ℕ) : Type 0 where
  pub size : size_right s ≡ true
  pub each : (i : ℕ) → 1 ≤ i → i ≤ count s → Sound s i
  pub climbing : (i : ℕ) → 1 ≤ i → i ≤ count s → reaches (records s) i ≡ true

pub form-passed : (s : List ℕ) → form s ≡ pass → Passed s
unfolding form climb_check
form-passed s h =
    let b = then-pass _ _ h in
    let a = then-pass _ _ b.0 in
    record {
      size = need-pass _ 1 0 a.0;
      each = λ i l m. sound-record s i (each-pass _ 1 (count s) a.1 i l (omega arith));
      climbing = λ i l m. need-pass _ 6 i (each-pass _ 1 (count s) b.1 i l (omega arith));
    }

pub form-make : (s : List ℕ) → Passed s → form s ≡ pass
unfolding form climb_check
form-make s w =
    then-make
    (then-make (need-make 1 0 w.size) (each-make _ 1 (count s) (λ j l m. record-sound s j (w.each j l (omega arith)))))
    (each-make _ 1 (count s) (λ j l m. need-make 6 j (w.climbing j l (omega arith))))

-- what is valid has its form, and there is nothing more to it
pub valid-form : (s : List ℕ) → validity s ≡ pass → form s ≡ pass
unfolding validity
valid-form s h = h

pub form-valid : (s : List ℕ) → form s ≡ pass → validity s ≡ pass
unfolding validity
form-valid s h = h

pub valid-passed : (s : List ℕ) → validity s ≡ pass → Passed s
valid-passed s h = form-passed s (valid-form s h)

pub size-whole : (s : List ℕ) → size_right s ≡ true → length s % 8 ≡ 0
unfolding size_right
size-whole s h = eqb-true _ _ (and_left _ _ h)

pub size-le : (s : List ℕ) → size_right s ≡ true → length s ≤ 8192
unfolding size_right
size-le s h = leb-true _ _ (and_right (eqb (length s % 8) 0) _ h)

module _ (s : List ℕ) (w : Passed s) where
  good-at : (i : ℕ) → Good s (at (records s) i)
  good-at zero = rw at-root (good-gone s)
  good-at (suc i) = go (dec_le (suc i) (count s))
    where
      go : Dec (suc i ≤ count s) → Good s (at (records s) (suc i))
      go (yes l) = rw (at-decode s (suc i) l) (good-record s (suc i) (w.each (suc i) (omega arith) l))
      go (no l) = rw (at-over (records s) (suc i) (omega (arith, length-records s))) (good-gone s)

  live-parent : (q : ℕ) → q ≢ 0 → parent_right s q ≡ true → Alive (records s) q
  unfolding parent_right decode
  live-parent zero n h = absurd (n refl)
  live-parent (suc q) n h = rw (at-decode s (suc q) (leb-true _ _ (and_left _ _ h))) (eqb-false _ _ (not-true _ (and_right (leb (suc q) (count s)) _ h)))

  passed-reach : (i : ℕ) → (d : ℕ) × Depth (parent_of (records s)) i d
  unfolding reaches
  passed-reach zero = (0, root)
  passed-reach (suc i) = go (dec_le (suc i) (count s))
    where
      go : Dec (suc i ≤ count s) → (d : ℕ) × Depth (parent_of (records s)) (suc i) d
      go (yes l) = let r = reaches-depth (records s) (length (records s)) (suc i) (w.climbing (suc i) (omega arith) l) in (r.0, r.2)
      go (no l) = (1, under_of (omega arith) (ap (λ r. r.parent) (at-over (records s) (suc i) (omega (arith, length-records s)))) root)

  pub passed-wf : WellFormed (records s)
  passed-wf = record {
    parents = λ i n. live-parent (parent_of (records s) i) n (good-at i).par;
    gones = λ i. (good-at i).gones;
    shaped = λ i. (good-at i).shaped;
    reach = passed-reach;
  }

-- the records of a valid itinerary
pub valid-wf : (s : List ℕ) → validity s ≡ pass → WellFormed (records s)
valid-wf s h = passed-wf s (valid-passed s h)

pub shape-kind : (r : Rec) → shape r ≡ true → kind_right r ≡ true
unfolding shape
shape-kind r h = and_left _ (label_right r && (name_right r && client_right r)) h

-- well-formed records, as bytes, pass the validation
module _ {its : List Rec} (wf : WellFormed its) where
  decode-at : (i : ℕ) → 1 ≤ i → i ≤ length its → decode (encode its) i ≡ at its i
  unfolding at
  decode-at zero l h = absurd (omega arith)
  decode-at (suc i) l h = decode-encode its i h

  parent-right : (q : ℕ) → (q ≢ 0 → Alive its q) → parent_right (encode its) q ≡ true
  unfolding parent_right decode
  parent-right zero h = refl
  parent-right (suc q) h =
      let a = h (omega arith) in
      let l = alive-in its (suc q) a in
      and-make (le-leb (suc q) (count (encode its)) (omega (arith, count-encode its)))
      (ap not (ne_eqb _ 0 (λ e. a (sym (ap (λ r. r.kind) (decode-at (suc q) (omega arith) l)) ∙ kind e))))
    where
      kind : byte_of (encode its) (suc q) 0 ≡ 0 → (decode (encode its) (suc q)).kind ≡ 0
      kind e = e

  spare : (i : ℕ) → 1 ≤ i → i ≤ length its → spare_right (encode its) i ≡ true
  unfolding spare_right byte_of byte_in
  spare zero l h = absurd (omega arith)
  spare (suc i) l h = eq-eqb _ _ (byte-encode its i 3 h (omega arith))

  gone-ok : (r : Rec) → (r.kind ≡ 0 → r ≡ gone) → gone_right r ≡ true
  unfolding gone_right blank
  gone-ok r f = go (eqb r.kind 0) refl
    where
      go : (t : Bool) → eqb r.kind 0 ≡ t → blank t r ≡ true
      go true e = rw (f (eqb-true _ _ e))
      go false e = refl

  sound-at : (i : ℕ) → 1 ≤ i → i ≤ length its → Sound (encode its) i
  sound-at i l h = record {
    kinds = rw (decode-at i l h) (shape-kind _ (wf.shaped i));
    spares = spare i l h;
    clients = rw (decode-at i l h) (shape-client _ (wf.shaped i));
    gones = rw (decode-at i l h) (gone-ok _ (wf.gones i));
    labels = rw (decode-at i l h) (shape-labelled _ (wf.shaped i));
    names = rw (decode-at i l h) (shape-named _ (wf.shaped i));
    parents = rw (decode-at i l h) (parent-right _ (wf.parents i));
  }

  climb-right : (i : ℕ) → i ≤ length its → reaches its i ≡ true
  unfolding reaches
  climb-right i h = depth-reaches its (length its) (wf.reach i).1 (depth_le (length its) (parent_in wf) h (wf.reach i).1)

  pub wf-form : length its ≤ 1024 → form (encode its) ≡ pass
  unfolding size_right
  wf-form h = form-make (encode its) (record {
    size = and-make (eq-eqb (length (encode its) % 8) 0 (omega (arith, length-encode its))) (le-leb (length (encode its)) 8192 (omega (arith, length-encode its)));
    each = λ i l m. sound-at i l (omega (arith, count-encode its));
    climbing = λ i l m. rw (records-encode its) (climb-right i (omega (arith, count-encode its)));
  })

  pub wf-valid : length its ≤ 1024 → validity (encode its) ≡ pass
  wf-valid h = form-valid (encode its) (wf-form h)

-- bytes that pass the validation are those of their records
module _ (s : List ℕ) (small : (j : ℕ) → byte s j < 256) (w : Passed s) where
  pub back : (i k : ℕ) → i < count s → k < 8 → byte_in (decode s (suc i)) k ≡ byte s (8 * i + k)
  unfolding byte_in decode spare_right byte_of
  back i zero l m = refl
  back i (suc zero) l m = refl
  back i (suc (suc zero)) l m = refl
  back i (suc (suc (suc zero))) l m = sym (eqb-true _ _ (w.each (suc i) (omega arith) l).spares)
  back i (suc (suc (suc (suc zero)))) l m = omega (arith, small (8 * i + 4))
  back i (suc (suc (suc (suc (suc zero))))) l m = omega (arith, small (8 * i + 4))
  back i (suc (suc (suc (suc (suc (suc zero)))))) l m = omega (arith, small (8 * i + 6))
  back i (suc (suc (suc (suc (suc (suc (suc zero))))))) l m = omega (arith, small (8 * i + 6))
  back i (suc (suc (suc (suc (suc (suc (suc (suc k)))))))) l m = absurd (omega arith)

  get-decode : (i : ℕ) → i < count s → get_or (records s) i gone ≡ decode s (suc i)
  unfolding at
  get-decode i l = at-decode s (suc i) l

  pub encode-records : encode (records s) ≡ s
  unfolding count
  encode-records = ext_get_or 0 _ s size (λ j h. go j (omega (arith, size)))
    where
      size : length (encode (records s)) ≡ length s
      size = omega (arith, length-encode (records s), length-records s, size-whole s w.size)

      go : (j : ℕ) → j < length s → byte (encode (records s)) j ≡ byte s j
      go j l =
          let e : 8 * (j / 8) + j % 8 ≡ j = omega arith in
          let m : j / 8 < count s = omega (arith, size-whole s w.size) in
          sym (ap (byte (encode (records s))) e)
          ∙ byte-encode (records s) (j / 8) (j % 8) (omega (arith, length-records s)) (omega arith)
          ∙ ap (λ r. byte_in r (j % 8)) (get-decode (j / 8) m)
          ∙ back (j / 8) (j % 8) m (omega arith)
          ∙ ap (byte s) e

pub valid-whole : (s : List ℕ) → validity s ≡ pass → length s % 8 ≡ 0
valid-whole s h = size-whole s (valid-passed s h).size

pub valid-few : (s : List ℕ) → validity s ≡ pass → length s ≤ 8192
valid-few s h = size-le s (valid-passed s h).size

-- a length that is refused
pub form-size : (s : List ℕ) → size_right s ≡ false → form s ≡ refuse 1 0
unfolding form
form-size s e = then-refuse _ (then-refuse _ (need-refuse 1 0 e))

pub valid-size : (s : List ℕ) → size_right s ≡ false → validity s ≡ refuse 1 0
unfolding validity
valid-size s e = form-size s e
