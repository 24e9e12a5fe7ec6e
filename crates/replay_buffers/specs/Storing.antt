-- The buffers of a replay, and the bits of a file of cases. (The format is in simulator/README.md.)
use Rattle.std.specs.Prelude.{suc, zero, ◌%◌, ◌*◌, ◌+◌, ◌/◌, ◌^◌, ℕ, drop, get_or, length, nat_eq, replicate, set, take, Bool, ◌&&◌, List, [], ◌++◌, ◌∷◌, ◌≡◌, Option, None, Some}
use Rattle.std.specs.Int.{from_le_bytes, w16, w32}
use Rattle.std.specs.Cmp.Lexicographic.{pointwise}
use Rattle.std.specs.Int.Bits.{bit_or, bit_xor}
use Rattle.model.specs.Records.{byte}
use Rattle.replay_compare.specs.Comparing.{agreeing}
use Rattle.replay_compare.specs.declared.Reply.{Reply}
use Rattle.replay_buffers.specs.declared.Buffer.{Buffer}
use Rattle.replay_buffers.specs.declared.Memory.{Memory}

-- a buffer with no bytes in it yet, that may have as many
unfoldable pub IsEmpty : ℕ → Buffer → Type 0
IsEmpty size b = (b.content.items ≡ []) × (b.shadow.items ≡ []) × (b.size ≡ size)

-- "Longest contents: itinerary, sheet and each other member 8,264, policy 80, table 1,560, script 4,104, answers 1,032, list
-- 1,048,600, joined 32,768"
unfoldable pub IsEmptyMemory : Memory → Type 0
IsEmptyMemory m =
    IsEmpty 8264 m.itinerary × IsEmpty 80 m.policy × IsEmpty 1560 m.table × IsEmpty 4104 m.script
    × IsEmpty 1032 m.answers × IsEmpty 8264 m.sheet × IsEmpty 1048600 m.list
    × IsEmpty 8264 m.second × IsEmpty 8264 m.third × IsEmpty 8264 m.fourth × IsEmpty 32768 m.joined

-- "1 itinerary, 2 policy, 3 table, 4 script, 5 answers, 6 sheet, 7 list, 8 to 10 the second to fourth member .. 11 joined"
unfoldable pub buffer_of : ℕ → Memory → Option Buffer
buffer_of zero m = None
buffer_of (suc zero) m = Some m.itinerary
buffer_of (suc (suc zero)) m = Some m.policy
buffer_of (suc (suc (suc zero))) m = Some m.table
buffer_of (suc (suc (suc (suc zero)))) m = Some m.script
buffer_of (suc (suc (suc (suc (suc zero))))) m = Some m.answers
buffer_of (suc (suc (suc (suc (suc (suc zero)))))) m = Some m.sheet
buffer_of (suc (suc (suc (suc (suc (suc (suc zero))))))) m = Some m.list
buffer_of (suc (suc (suc (suc (suc (suc (suc (suc zero)))))))) m = Some m.second
buffer_of (suc (suc (suc (suc (suc (suc (suc (suc (suc zero))))))))) m = Some m.third
buffer_of (suc (suc (suc (suc (suc (suc (suc (suc (suc (suc zero)))))))))) m = Some m.fourth
buffer_of (suc (suc (suc (suc (suc (suc (suc (suc (suc (suc (suc zero))))))))))) m = Some m.joined
buffer_of (suc (suc (suc (suc (suc (suc (suc (suc (suc (suc (suc (suc k)))))))))))) m = None

-- b' is the buffer b with n bytes, each the one given
unfoldable pub IsFull : ℕ → ℕ → Buffer → Buffer → Type 0
IsFull n byte b b' =
    (b'.content.items ≡ replicate n byte) × (b'.shadow.items ≡ replicate n byte) × (b'.size ≡ b.size)

-- the first bytes of s for those of t, as many as both have
unfoldable pub copied : List ℕ → List ℕ → List ℕ
copied s t = take (length t) s ++ drop (length s) t

-- b' is the buffer b, whose bytes are to stay
unfoldable pub StaysAsItIs : Buffer → Buffer → Type 0
StaysAsItIs b b' =
    (b'.content.items ≡ b.content.items) × (b'.shadow.items ≡ copied b.content.items b.shadow.items) × (b'.size ≡ b.size)

-- n bytes from a place on, or as many as there are
unfoldable pub bytes_at : ℕ → ℕ → List ℕ → List ℕ
bytes_at at n s = take n (drop at s)

-- "all contents must equal their shadows"
unfoldable pub buffer_right : Buffer → Bool
buffer_right b = pointwise nat_eq b.content.items b.shadow.items

-- the answers agree, and each buffer that a call may write has the bytes wanted
unfoldable pub as_wanted : Reply → Reply → Memory → Bool
as_wanted got want m =
    agreeing got want
    && (buffer_right m.itinerary && (buffer_right m.table && (buffer_right m.answers && (buffer_right m.sheet
    && (buffer_right m.list && buffer_right m.joined)))))

-- "number (one byte), record, the values": value k of an answer as a file has it
unfoldable pub value : List ℕ → ℕ → ℕ
value b k = from_le_bytes w32 (byte b (3 + 4 * k) ∷ byte b (3 + 4 * k + 1) ∷ byte b (3 + 4 * k + 2) ∷ byte b (3 + 4 * k + 3) ∷ [])

-- the answer; "Numbers are little-endian"
unfoldable pub decoded : List ℕ → Reply
decoded b = record {
  number = byte b 0;
  «record» = from_le_bytes w16 (byte b 1 ∷ byte b 2 ∷ []);
  values = value b 0 ∷ value b 1 ∷ value b 2 ∷ value b 3 ∷ value b 4 ∷ value b 5 ∷ [];
}

-- bit k turned, where there is one
unfoldable pub turned : ℕ → List ℕ → List ℕ
turned k s = set s (k / 8) (bit_xor (get_or s (k / 8) 0) (2 ^ (k % 8)))

-- bit k set, where there is one
unfoldable pub raised : ℕ → List ℕ → List ℕ
raised k s = set s (k / 8) (bit_or (get_or s (k / 8) 0) (2 ^ (k % 8)))
