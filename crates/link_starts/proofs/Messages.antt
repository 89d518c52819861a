-- The messages of a record, written where they lie. Assumes nothing.
use Prim.Native.Nat.{ℕ, ◌+◌, ◌≤◌, ◌<◌}
use mathlib.Core.Path.{◌≡◌, sym, ap, ◌∙◌, subst}
use mathlib.Core.Bool.{false}
use mathlib.Core.List.{List}
use native.Mathlib.Omega.{arith}
use lib.ListN.{length, take, get_or, set, length-set}
use lib.Seq.{get_or-set_same, get_or-set_other}
use Rattle.rules.specs.Lists.{Bytes, total, itself}
use Rattle.rules.specs.Buffers.{repacked}
use Rattle.stores.proofs.Runs.{Run, run_none, run_more}
use Rattle.outbox.specs.declared.Unacked.{Unacked}
use Rattle.outbox.specs.View.{blank_u, end_u}
use Rattle.starts.specs.declared.Reliable.{Reliable}
use Rattle.starts.specs.Records.{records_of, Fitting, Recorded}
use Rattle.starts.proofs.Slices.{length-records, record_at}
use Rattle.parts.specs.Seats.{seats}
use Rattle.parts.specs.Parts.{at, unacked_at, outbox_in}
use Rattle.parts.specs.Frames.{Past}
use Rattle.parts.proofs.Seats.{length-seats, seats-same}
use Rattle.link_outbox.proofs.Records.{past_same, past-set, twice_past, written}
use Rattle.link_starts.specs.Steps.{Written, TakenIn}

-- ---- record by record

pub record Writing (ns ks h₀ b₀ h b : List ℕ) (i : ℕ) : Type 0 where
  pub fitting : Fitting ns ks
  pub run : Run (seats 256 (unacked_at h₀ b₀)) 0 (records_of ns ks) (length ns) (seats 256 (unacked_at h b)) i
  pub within : i ≤ length ns
  pub has-halves : length h ≡ 772
  pub has-bytes : length b ≡ 4936
  pub halves : Past 512 h₀ h
  pub bytes : Past 512 b₀ b

pub writing_none : (ns ks h b : List ℕ) → Fitting ns ks → length h ≡ 772 → length b ≡ 4936 → Writing ns ks h b h b 0
writing_none ns ks h b f lh lb =
    record {
      fitting = f;
      run = run_none _ 0 _ (length-records ns ks f.enough) (omega (arith, length-seats 256 (unacked_at h b), f.few));
      within = omega arith;
      has-halves = lh;
      has-bytes = lb;
      halves = past_same 512 h;
      bytes = past_same 512 b;
    }

then_past : {n : ℕ} {l m r : List ℕ} → Past n l m → Past n m r → Past n l r
then_past p q = record { size = q.size ∙ p.size; same = λ i k. q.same i k ∙ p.same i k }

module _ {ns ks h₀ b₀ h b : List ℕ} {i : ℕ} (g : Writing ns ks h₀ b₀ h b i) where
  pub writing_more : i < length ns → Writing ns ks h₀ b₀ (set (set h i (get_or ns i 0)) (256 + i) (get_or ks i 0)) (set (set b i 0) (256 + i) 0) (i + 1)
  writing_more l =
      let k : i < 256 = omega (arith, g.fitting.few) in
      let v : Unacked = record { number = get_or ns i 0; len = get_or ks i 0; pending = false; unsent = false } in
      let z : 0 + i ≡ i = omega arith in
      let r : Run (seats 256 (unacked_at h₀ b₀)) 0 (records_of ns ks) (length ns) (set (seats 256 (unacked_at h b)) (0 + i) v) (i + 1) =
      run_more g.run blank_u v l (record_at ns ks i g.fitting.enough l) in
      let r' : Run (seats 256 (unacked_at h₀ b₀)) 0 (records_of ns ks) (length ns) (set (seats 256 (unacked_at h b)) i v) (i + 1) =
      subst (λ (j : ℕ). Run (seats 256 (unacked_at h₀ b₀)) 0 (records_of ns ks) (length ns) (set (seats 256 (unacked_at h b)) j v) (i + 1)) z r in
      record {
        fitting = g.fitting;
        run =
            subst (λ (us : List Unacked). Run (seats 256 (unacked_at h₀ b₀)) 0 (records_of ns ks) (length ns) us (i + 1))
            (sym (written h b i (get_or ns i 0) (get_or ks i 0) 0 0 k g.has-halves g.has-bytes)) r';
        within = omega arith;
        has-halves = length-set (set h i (get_or ns i 0)) (256 + i) (get_or ks i 0) ∙ length-set h i (get_or ns i 0) ∙ g.has-halves;
        has-bytes = length-set (set b i 0) (256 + i) 0 ∙ length-set b i 0 ∙ g.has-bytes;
        halves = then_past g.halves (twice_past h i (get_or ns i 0) (get_or ks i 0) k);
        bytes = then_past g.bytes (twice_past b i 0 0 k);
      }

-- ---- the record is taken

-- the outbox of records that are written, with the next number and the count
pub recorded_in : {ns ks h b h' b' : List ℕ} (next : ℕ) → Written ns ks h b h' b' → (w' b'' : List ℕ) → at w' 0 ≡ next → at w' 1 ≡ length ns
    → ((i : ℕ) → i < 512 → at b'' i ≡ at b' i) → Recorded next ns ks (outbox_in w' h' b'')
recorded_in {ns} {ks} {h} {b} {h'} {b'} next g w' b'' en ec eb =
    let same : seats 256 (unacked_at h' b'') ≡ seats 256 (unacked_at h' b') = seats-same 256 (unacked_at h' b'') (unacked_at h' b') each in
    record {
      next_is = en;
      count_is = ec;
      used = ap (λ (k : ℕ). take k (seats 256 (unacked_at h' b''))) ec ∙ ap (take (length ns)) same ∙ g.used;
      full = length-seats 256 (unacked_at h' b'');
    }
  where
    each : (i : ℕ) → i < 256 → unacked_at h' b'' i ≡ unacked_at h' b' i
    each i k =
        let p : at b'' i ≡ at b' i = eb i (omega arith) in
        let u : at b'' (256 + i) ≡ at b' (256 + i) = eb (256 + i) (omega arith) in
        rw (p, u)

module _ (x : Reliable) (ns ks : List ℕ) (bodies : Bytes) (w h b : List ℕ) (o : Bytes) where
  pub takes_in : length w ≡ 1296 → length b ≡ 4936 → {h' b' : List ℕ} {o' : Bytes} → Written ns ks h b h' b'
      → (n end : ℕ) → n ≡ total itself (take (length ns) ks) → end ≡ end_u (outbox_in w h b) → o' ≡ repacked end (take n bodies) o
      → TakenIn x ns ks bodies w h b o (set (set (set w 0 x.message_number) 1 (length ns)) 2 x.remote_number) h' (set b' 768 x.disposition) o'
  takes_in lw lb {h'} {b'} {o'} g n end en ee eo =
      let w₁ : List ℕ = set w 0 x.message_number in
      let w₂ : List ℕ = set w₁ 1 (length ns) in
      let w₃ : List ℕ = set w₂ 2 x.remote_number in
      let l₁ : length w₁ ≡ 1296 = length-set w 0 x.message_number ∙ lw in
      let l₂ : length w₂ ≡ 1296 = length-set w₁ 1 (length ns) ∙ l₁ in
      record {
        recorded =
            recorded_in x.message_number g w₃ (set b' 768 x.disposition)
            (get_or-set_other w₂ 2 0 x.remote_number 0 (λ e. omega (arith, e)) ∙ get_or-set_other w₁ 1 0 (length ns) 0 (λ e. omega (arith, e)) ∙ get_or-set_same w 0 x.message_number 0 (omega arith))
            (get_or-set_other w₂ 2 1 x.remote_number 0 (λ e. omega (arith, e)) ∙ get_or-set_same w₁ 1 (length ns) 0 (omega arith))
            (λ i k. get_or-set_other b' 768 i x.disposition 0 (λ e. omega arith));
        stored = eo ∙ ap (λ (k : ℕ). repacked k (take n bodies) o) ee ∙ ap (λ (k : ℕ). repacked (end_u (outbox_in w h b)) (take k bodies) o) en;
        words =
            past-set (past-set (past-set (past_same 3 w) 0 x.message_number (omega arith)) 1 (length ns) (omega arith)) 2 x.remote_number (omega arith);
        remote = get_or-set_same w₂ 2 x.remote_number 0 (omega arith);
        halves = g.halves;
        size = length-set b' 768 x.disposition ∙ g.bytes.size;
        bytes = λ i k out. get_or-set_other b' 768 i x.disposition 0 out ∙ g.bytes.same i k;
        disposition = get_or-set_same b' 768 x.disposition 0 (omega (arith, g.bytes.size));
      }
