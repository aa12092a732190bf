-- Stretches of a stream put together: what the samples from one place to another do to a world, with their answers; and
-- the buffer that the answers stand in. Assumes nothing.
use mathlib.Core.Path.{◌≡◌, ◌∙◌, sym, refl, ap}
use mathlib.Core.Bool.{true}
use mathlib.Core.List.{List, [], ◌∷◌, ◌++◌, append_assoc}
use Prim.Native.Nat.{ℕ, ◌+◌, ◌-◌, ◌*◌, ◌<◌, ◌≤◌}
use native.Mathlib.Omega.{arith}
use lib.ListN.{length, take, drop, length-append, length-drop}
use lib.Seq.{length-take-le, take_at, drop_at, drop-drop}
use Rattle.soundness.specs.Sound.{sound_of}
use Rattle.clock.specs.Fold.{World, onward, answer_to, through, answers_to}
use Rattle.clock.proofs.Kept.{device_clock_sound}
use Rattle.record.specs.Sample.{sample_at}
use Rattle.basics.specs.Bytes.{put}
use Rattle.fast_run.specs.Stretch.{samples_from, Simulates, Stretched}
use Rattle.record.proofs.Samples.{samples_cons}

-- at place m with world v all that is still to come goes as at place k with world w, the answers between being these bytes
pub record Leads (s : List ℕ) (k : ℕ) (w : World) (m : ℕ) (v : World) (bytes : List ℕ) : Type 0 where
  pub ahead : m ≡ k + length bytes
  pub leads : through (samples_from s m) v ≡ through (samples_from s k) w
  pub told : bytes ++ answers_to (samples_from s m) v ≡ answers_to (samples_from s k) w
  pub kept : sound_of w.device ≡ true → sound_of v.device ≡ true

pub none : (s : List ℕ) (k : ℕ) (w : World) → Leads s k w k w []
none s k w = record { ahead = omega arith; leads = refl; told = refl; kept = λ h. h }

-- one clock
pub one : (s : List ℕ) (k : ℕ) (w v : World) (byte : ℕ)
    → 2 * k + 1 < length s
    → onward w (sample_at s k) ≡ v
    → answer_to w (sample_at s k) ≡ byte
    → Leads s k w (k + 1) v (byte ∷ [])
unfolding onward
one s k w v byte h e f =
    record {
      ahead = refl;
      leads = rw (samples_cons s k h, ← e);
      told = rw (samples_cons s k h, ← e, ← f);
      kept = λ g. rw (← e) (device_clock_sound w.device w.image (sample_at s k) g);
    }

-- one stretch and the next
pub join : (s : List ℕ) (k l m : ℕ) (u v w : World) (before bytes : List ℕ)
    → Leads s k u l v before
    → Leads s l v m w bytes
    → Leads s k u m w (before ++ bytes)
join s k l m u v w before bytes a b =
    record {
      ahead = rw (length-append before bytes) (omega (arith, a.ahead, b.ahead));
      leads = b.leads ∙ a.leads;
      told = rw (append_assoc before bytes (answers_to (samples_from s m) w), b.told) a.told;
      kept = λ h. b.kept (a.kept h);
    }

-- with the bytes in the buffer
pub lands : (s : List ℕ) (k m : ℕ) (w v : World) (bytes buffer later : List ℕ)
    → Leads s k w m v bytes
    → m ≤ length buffer
    → later ≡ put buffer k bytes
    → Simulates s k w buffer m v later
lands s k m w v bytes buffer later l h e =
    let x = l.ahead in
    let t : length (take k buffer) ≡ k = length-take-le k buffer (omega arith) in
    let f : length (take k buffer ++ bytes) ≡ m = rw (length-append (take k buffer) bytes, t) (omega arith) in
    record {
      forward = omega arith;
      leads = l.leads;
      told =
          rw (e, ← x, take_at (take k buffer ++ bytes) (drop m buffer) m f, append_assoc (take k buffer) bytes (answers_to (samples_from s m) v), l.told);
      beyond = rw (e, ← x, drop_at (take k buffer ++ bytes) (drop m buffer) m f);
      size = rw (e, ← x, length-append (take k buffer ++ bytes) (drop m buffer), f, length-drop) (omega arith);
      kept = l.kept;
    }

-- the buffer moves on with them
pub stays : (s : List ℕ) (k : ℕ) (w : World) (buffer : List ℕ) → Simulates s k w buffer k w buffer
stays s k w buffer = record { forward = omega arith; leads = refl; told = refl; beyond = refl; size = refl; kept = λ h. h }

past : (k m : ℕ) (a b : List ℕ) → k ≤ m → drop k a ≡ drop k b → drop m a ≡ drop m b
past k m a b h e =
    let x : m ≡ k + (m - k) = omega arith in
    rw x (sym (drop-drop (m - k) k a) ∙ ap (drop (m - k)) e ∙ drop-drop (m - k) k b)

module _ {s : List ℕ} {k l m : ℕ} {u v w : World} {first mid last : List ℕ} (a : Simulates s k u first l v mid) where
  pub simulates_on : Simulates s l v mid m w last → Simulates s k u first m w last
  simulates_on b =
      record {
        forward = omega (arith, a.forward, b.forward);
        leads = b.leads ∙ a.leads;
        told = b.told ∙ a.told;
        beyond = b.beyond ∙ past l m mid first b.forward a.beyond;
        size = b.size ∙ a.size;
        kept = λ h. b.kept (a.kept h);
      }

  pub stretched_on : {n : ℕ} → Stretched s l v mid n m w last → Stretched s k u first n m w last
  stretched_on b = record { further = omega (arith, a.forward, b.further); within = b.within; simulates = simulates_on b.simulates }
