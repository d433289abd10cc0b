-- The marked cases M1 to M12 of document 01, "Bench values", and further ones: one table, and one statement over all its rows, computed from the
-- definitions that the contracts cite. The rows are numerals, document 01's own or worked out from its words and those of document 02, U1, U3 and U5, and
-- use nothing of those definitions. Assumes nothing.
use Rattle.std.specs.Prelude.{◌≡◌, refl, cond, List, [], ◌∷◌, ◌++◌, ℕ, ◌+◌, ◌-◌, ◌*◌, ◌/◌, ◌%◌, ltb, ℤ, pos, negsuc, get_or, replicate}
use Rattle.integers.specs.Sum.{total}
use Rattle.cordic.specs.Word.{scaled, saturate}
use Rattle.cordic.specs.MicroRotation.{oriented, oriented_pair, micro_rotation_of, micro_rotations, leading, sign}
use Rattle.lists.specs.Lists.{tabulate}
use Rattle.rotation.specs.Column.{column_at, rotated_at, stored, column_stored}
use Rattle.rotation.specs.Rotated.{rotated_word, rotated, saturations_at, saturations_of}
use Rattle.rotation.specs.Turn.{is_clear_of, turned, turn_saturations, turn_made}
use Rattle.rotation.specs.Saturations.{added}
use Rattle.schedule.specs.Schedule.{stage_rotations, survivors, stages, up_from, column_stages, stages_rotations, columns_rotations, schedule, rotation_at_of}
use Rattle.refusals.specs.Refusals.{header_test}
use Rattle.matrix_record.specs.MatrixRecord.{part_of, real_entry_of, antenna_heard_of, heard_below}
use Rattle.result_record.specs.ResultRecord.{result_word, result_byte}
use Rattle.workspace.specs.Loading.{loaded_at, loaded_word_of}
use Rattle.workspace.specs.Workspace.{word_in, R, Q}
use Rattle.workspace.specs.Rotations.{workspace_turned, workspace_saturations, workspace_made, words_after, saturations_counted, turns_made}
use Rattle.engine.specs.Job.{job_test}
use Rattle.engine.specs.Load.{load_refusal_of, load_by, load_of}
use Rattle.engine.specs.Run.{run_refusal_of, next_job, run_done, run_by, run_of}
use Rattle.engine.specs.Whole.{whole_refusal_of, whole_done, whole_by, whole_of}

pub data Case : Type 0 where
  -- a matrix record has these four bytes from a byte position on, and all others but the first are zero: Load puts this word at a row and a
  -- column
  loads : ℕ → List ℕ → ℕ → ℕ → ℤ → Case
  -- a matrix record has these two bytes for the real part of each of the eight diagonal elements, and this byte everywhere else but at first: Load and
  -- Whole answer this heard byte
  hears : List ℕ → ℕ → ℕ → Case
  -- a workspace has this word at a row and a column, and all others are zero: the result record has these four bytes from a byte position on
  writes : ℕ → ℕ → ℤ → ℕ → List ℕ → Case
  -- a rotation's number, its column, upper and lower row
  schedules : ℕ → ℕ → ℕ → ℕ → Case
  -- step 3 takes a word to another
  scales : ℤ → ℤ → Case
  -- the leading pair (x, y) of a turn of column 0 becomes the pair (u, v)
  rotates : ℤ → ℤ → ℤ → ℤ → Case
  -- the last turn has the leading pair (x, y), and in a further column j the pair (u, v); all other words are zero. A Run of that turn alone answers
  -- these clamps in R and in Q
  clamps : ℤ → ℤ → ℕ → ℤ → ℤ → ℕ → ℕ → Case
  -- with the same words a Run of that turn alone leaves this pair in the further column
  leaves : ℤ → ℤ → ℕ → ℤ → ℤ → ℤ → ℤ → Case
  -- the last turn has the leading pair (x, y), and all other words are zero. A Run of allowance 2 from the job (119, 7) answers the job (120, n) and a count
  -- of 1
  makes : ℤ → ℤ → ℕ → Case

-- 257 bytes: 01, and these four at position p
abbrev pub matrix_with : ℕ → List ℕ → List ℕ
matrix_with p bytes = 1 ∷ replicate (p - 1) 0 ++ bytes ++ replicate (253 - p) 0

-- 257 bytes: 01, and from byte 1 on two of these at every 36th byte and the one after it; all others are b
abbrev pub matrix_heard : List ℕ → ℕ → List ℕ
matrix_heard parts b = 1 ∷ tabulate 256 (λ p. cond (ltb (p % 36) 2) (get_or parts (2 * (p / 36) + p % 36) 0) b)

-- 16 rows of 32 words, with w at row i, column j
abbrev pub workspace_with : ℕ → ℕ → ℤ → List ℤ
workspace_with i j w = replicate (i * 32 + j) (pos 0) ++ w ∷ replicate (511 - (i * 32 + j)) (pos 0)

-- two rows of 32 words, with x and y in their leading column
abbrev pub rows_of : ℤ → ℤ → List ℤ
rows_of x y = x ∷ replicate 31 (pos 0) ++ y ∷ replicate 31 (pos 0)

-- 16 rows of 32 words: in rows 14 and 15 the pair x, y in column 14 and the pair u, v in a column j after it
abbrev pub last_rows_with : ℤ → ℤ → ℕ → ℤ → ℤ → List ℤ
last_rows_with x y j u v = replicate 448 (pos 0) ++ last_row x j u ++ last_row y j v
  where
    last_row : ℤ → ℕ → ℤ → List ℤ
    last_row x j u = replicate 14 (pos 0) ++ x ∷ replicate (j - 15) (pos 0) ++ u ∷ replicate (31 - j) (pos 0)

abbrev pub Says : Case → Type 0
Says (loads p bytes i j w) = loaded_word_of (matrix_with p bytes) (i * 32 + j) ≡ w
Says (hears parts b h) =
    ((load_of (matrix_heard parts b) (replicate 512 (pos 0))).reply.heard ≡ h)
    × ((whole_of (matrix_heard parts b) (replicate 512 (pos 0)) (replicate 2049 0)).reply.heard ≡ h)
Says (writes i j w p bytes) = tabulate 4 (λ k. result_byte (R (workspace_with i j w)) (Q (workspace_with i j w)) (p + k)) ≡ bytes
Says (schedules n j u l) = rotation_at_of n ≡ record { column = j; upper = u; lower = l }
Says (scales w x) = scaled w ≡ x
Says (rotates x y u v) = (get_or (turned 0 1 (rows_of x y)) 0 (pos 0) ≡ u) × (get_or (turned 0 1 (rows_of x y)) 32 (pos 0) ≡ v)
Says (clamps x y j u v r q) =
    let reply = (run_of (record { turn = 119; made = 0 }) 1 (last_rows_with x y j u v)).reply in
    (reply.clamps_r ≡ r) × (reply.clamps_q ≡ q)
Says (leaves x y j u v w z) =
    let words = (run_of (record { turn = 119; made = 0 }) 1 (last_rows_with x y j u v)).workspace in
    (word_in words 14 j ≡ w) × (word_in words 15 j ≡ z)
Says (makes x y n) =
    let reply = (run_of (record { turn = 119; made = 7 }) 2 (last_rows_with x y 15 (pos 0) (pos 0))).reply in
    (reply.job ≡ record { turn = 120; made = n }) × (reply.count ≡ 1)

abbrev pub AllSay : List Case → Type 0
AllSay [] = Unit {0}
AllSay (c ∷ cs) = Says c × AllSay cs

unfoldable pub cases : List Case
cases =
    -- M1, M2, M3
    loads 1 (0 ∷ 1 ∷ 0 ∷ 0 ∷ []) 0 0 (pos 8192)
    ∷ loads 1 (128 ∷ 0 ∷ 0 ∷ 0 ∷ []) 0 0 (negsuc 268435455)
    ∷ loads 1 (0 ∷ 0 ∷ 128 ∷ 0 ∷ []) 0 8 (pos 268435456)
    -- element (0, 1), which is 1 + 2i, bytes 5 to 8: its real part upper left and lower right, its imaginary part lower left, the negative of that
    -- upper right
    ∷ loads 5 (0 ∷ 1 ∷ 0 ∷ 2 ∷ []) 0 1 (pos 8192)
    ∷ loads 5 (0 ∷ 1 ∷ 0 ∷ 2 ∷ []) 8 9 (pos 8192)
    ∷ loads 5 (0 ∷ 1 ∷ 0 ∷ 2 ∷ []) 8 1 (pos 16384)
    ∷ loads 5 (0 ∷ 1 ∷ 0 ∷ 2 ∷ []) 0 9 (negsuc 16383)
    -- element (1, 0), bytes 33 to 36, in the same way: "row by row" is told apart from column by column
    ∷ loads 33 (0 ∷ 1 ∷ 0 ∷ 2 ∷ []) 1 0 (pos 8192)
    ∷ loads 33 (0 ∷ 1 ∷ 0 ∷ 2 ∷ []) 9 8 (pos 8192)
    ∷ loads 33 (0 ∷ 1 ∷ 0 ∷ 2 ∷ []) 9 0 (pos 16384)
    ∷ loads 33 (0 ∷ 1 ∷ 0 ∷ 2 ∷ []) 1 8 (negsuc 16383)
    -- beside it the identity with 2^30 for one: its one from a zero, and from the one of another row
    ∷ loads 5 (0 ∷ 1 ∷ 0 ∷ 2 ∷ []) 0 16 (pos 1073741824)
    ∷ loads 5 (0 ∷ 1 ∷ 0 ∷ 2 ∷ []) 1 16 (pos 0)
    -- the heard byte: the first antenna alone, the last alone, and all, each by 17 and all else loud, faint or zero
    ∷ hears (0 ∷ 17 ∷ 0 ∷ 16 ∷ 0 ∷ 16 ∷ 0 ∷ 16 ∷ 0 ∷ 16 ∷ 0 ∷ 16 ∷ 0 ∷ 16 ∷ 0 ∷ 16 ∷ []) 127 1
    ∷ hears (0 ∷ 0 ∷ 0 ∷ 0 ∷ 0 ∷ 0 ∷ 0 ∷ 0 ∷ 0 ∷ 0 ∷ 0 ∷ 0 ∷ 0 ∷ 0 ∷ 0 ∷ 17 ∷ []) 255 128
    ∷ hears (0 ∷ 17 ∷ 0 ∷ 17 ∷ 0 ∷ 17 ∷ 0 ∷ 17 ∷ 0 ∷ 17 ∷ 0 ∷ 17 ∷ 0 ∷ 17 ∷ 0 ∷ 17 ∷ []) 0 255
    -- 16, 17, -17, -32768, -1, 32767, 256 and 0: antennas 1, 5 and 6
    ∷ hears (0 ∷ 16 ∷ 0 ∷ 17 ∷ 255 ∷ 239 ∷ 128 ∷ 0 ∷ 255 ∷ 255 ∷ 127 ∷ 255 ∷ 1 ∷ 0 ∷ 0 ∷ 0 ∷ []) 127 98
    -- the result record: the kind byte 02 and the high byte first
    ∷ writes 0 0 (pos 16909060) 0 (2 ∷ 1 ∷ 2 ∷ 3 ∷ [])
    -- R row by row: word (0, 1) from word (1, 0)
    ∷ writes 0 1 (pos 16909060) 5 (1 ∷ 2 ∷ 3 ∷ 4 ∷ [])
    ∷ writes 1 0 (pos 16909060) 65 (1 ∷ 2 ∷ 3 ∷ 4 ∷ [])
    -- then Q transposed, row by row as it stands in columns 16 to 31, and not Q
    ∷ writes 0 17 (pos 16909060) 1029 (1 ∷ 2 ∷ 3 ∷ 4 ∷ [])
    ∷ writes 1 16 (pos 16909060) 1089 (1 ∷ 2 ∷ 3 ∷ 4 ∷ [])
    -- the last word, -2: two's complement from sign and magnitude
    ∷ writes 15 31 (negsuc 1) 2045 (255 ∷ 255 ∷ 255 ∷ 254 ∷ [])
    -- M4 to M8
    ∷ schedules 7 0 14 15
    ∷ schedules 14 0 0 8
    ∷ schedules 22 1 1 3
    ∷ schedules 25 1 13 15
    ∷ schedules 119 14 14 15
    -- the first stage pairs neighbours, first with second and third with fourth; the second stage pairs the rows that stand on
    ∷ schedules 0 0 0 1
    ∷ schedules 1 0 2 3
    ∷ schedules 8 0 0 2
    -- M9
    ∷ scales (pos 2) (pos 1)
    ∷ scales (negsuc 0) (negsuc 0)
    ∷ scales (pos 3) (pos 2)
    -- 2^28, where 2^29 is exactly the half that is added: 2^29 - 1 in its place would give 163008218
    ∷ scales (pos 268435456) (pos 163008219)
    -- M10, M11, M12
    ∷ rotates (pos 1) (pos 0) (pos 1) (pos 0)
    ∷ rotates (pos 0) (pos 1) (pos 1) (pos 0)
    ∷ rotates (negsuc 0) (pos 0) (pos 17) (pos 0)
    -- the same rounding in a whole rotation of a negative word: its 28 micro-rotations make 2^28 of it, and -1 under it, which is stored as 0
    ∷ rotates (negsuc 163008212) (pos 0) (pos 163008219) (pos 0)
    -- a turn by half a right angle makes of two words at the ends of the range one beyond it: the upper and the lower word of R's last column, and of
    -- Q's first
    ∷ clamps (pos 1048576) (pos 1048576) 15 (pos 2147483647) (pos 2147483647) 1 0
    ∷ clamps (pos 1048576) (pos 1048576) 15 (negsuc 2147483647) (pos 2147483647) 1 0
    ∷ clamps (pos 1048576) (pos 1048576) 16 (pos 2147483647) (pos 2147483647) 0 1
    ∷ clamps (pos 1048576) (pos 1048576) 16 (negsuc 2147483647) (pos 2147483647) 0 1
    -- the leading column is one of R; with it Q's last column, in the same turn
    ∷ clamps (pos 2147483647) (pos 2147483647) 31 (pos 2147483647) (pos 2147483647) 1 1
    -- what is already clear: the lower leading word 0, the upper one 0 or more
    ∷ rotates (pos 0) (pos 0) (pos 0) (pos 0)
    ∷ rotates (pos 2147483647) (pos 0) (pos 2147483647) (pos 0)
    -- its other words stay, where a turn of the leading pair (-1, 0) would make others of them; and it clamps none
    ∷ leaves (pos 1) (pos 0) 15 (pos 1000) (negsuc 0) (pos 1000) (negsuc 0)
    ∷ leaves (pos 0) (pos 0) 31 (pos 2147483647) (negsuc 2147483647) (pos 2147483647) (negsuc 2147483647)
    ∷ leaves (negsuc 0) (pos 0) 15 (pos 1000) (negsuc 0) (negsuc 971) (negsuc 182)
    ∷ clamps (pos 1) (pos 0) 16 (pos 2147483647) (pos 2147483647) 0 0
    ∷ clamps (negsuc 0) (pos 0) 16 (pos 2147483647) (pos 2147483647) 0 1
    -- a clear turn is not made, and counts all the same; any other is made
    ∷ makes (pos 0) (pos 0) 7
    ∷ makes (pos 1) (pos 0) 7
    ∷ makes (negsuc 0) (pos 0) 8
    ∷ makes (pos 0) (pos 1) 8
    ∷ makes (pos 1) (negsuc 0) 8
    ∷ []

pub marked : AllSay cases
unfolding cases load_of load_by load_refusal_of whole_of whole_by whole_done whole_refusal_of header_test loaded_at real_entry_of part_of heard_below antenna_heard_of result_byte result_word R Q word_in rotation_at_of schedule columns_rotations stages_rotations column_stages stages survivors up_from stage_rotations scaled saturate oriented oriented_pair micro_rotation_of micro_rotations leading sign column_at rotated_at stored column_stored rotated_word tabulate rotated total saturations_at saturations_of is_clear_of turned turn_saturations turn_made added workspace_turned workspace_saturations workspace_made words_after saturations_counted turns_made job_test run_refusal_of next_job run_done run_by run_of
marked =
    (refl, (refl, (refl, (refl, (refl, (refl, (refl, (refl, (refl, (refl, (refl, (refl, (refl, ((refl, refl), ((refl, refl), ((refl, refl), ((refl, refl), (refl, (refl, (refl, (refl, (refl, (refl, (refl, (refl, (refl, (refl, (refl, (refl, (refl, (refl, (refl, (refl, (refl, (refl, ((refl, refl), ((refl, refl), ((refl, refl), ((refl, refl), ((refl, refl), ((refl, refl), ((refl, refl), ((refl, refl), ((refl, refl), ((refl, refl), ((refl, refl), ((refl, refl), ((refl, refl), ((refl, refl), ((refl, refl), ((refl, refl), ((refl, refl), ((refl, refl), ((refl, refl), ((refl, refl), ((refl, refl), tt))))))))))))))))))))))))))))))))))))))))))))))))))))))))
