-- No second answer, of the family wire (OneAnswer.antt says what that is).
use Rattle.std.proofs.Common.{sym, ◌∙◌}
use denote.RattleType.{RattleType}
use denote.Param.Laws.{Laws}
use mir.Syntax.{Dict}
use Rattle.wire_read.specs.declared.parted.Parted.{Ghosts}
use Rattle.promises.specs.OneAnswer.{OneAnswer, result, part, buffer, result_and_buffer}
use Rattle.wire_read.proofs.byte.Kinds as byte-kinds
use Rattle.wire_read.proofs.byte.Reads as byte-Reads
use Rattle.wire_read.proofs.be16.Kinds as be16-kinds
use Rattle.wire_read.proofs.be16.Reads as be16-reads
use Rattle.wire_read.proofs.be32.Kinds as be32-kinds
use Rattle.wire_read.proofs.be32.Reads as be32-reads
use Rattle.wire_read.proofs.be64.Kinds as be64-kinds
use Rattle.wire_read.proofs.be64.Reads as be64-reads
use Rattle.wire_read.proofs.front.Kinds as front-kinds
use Rattle.wire_read.proofs.front.Reads as front_reads
use Rattle.wire_read.proofs.after.Kinds as after-kinds
use Rattle.wire_read.proofs.after.Reads as after-reads
use Rattle.wire_read.proofs.all_zero.Kinds as all-zero-kinds
use Rattle.wire_read.proofs.all_zero.Reads as all-zero-reads
use Rattle.wire_read.proofs.equal.Kinds as equal-kinds
use Rattle.wire_read.proofs.equal.Reads as equal-reads
use Rattle.wire_read.proofs.parted.skip.Kinds as skip-kinds
use Rattle.wire_read.proofs.parted.skip.Reads as skip-reads
use Rattle.wire_read.proofs.parted.parts.Kinds as parts-kinds
use Rattle.wire_read.proofs.parted.parts.Reads as parts-reads
use Rattle.wire_read.proofs.parted.numbered.Kinds as numbered-kinds
use Rattle.wire_read.proofs.parted.numbered.Reads as numbered-reads
use Rattle.wire_write.proofs.put_bytes.Kinds as put-bytes-kinds
use Rattle.wire_write.proofs.put_bytes.Reads as put-bytes-reads
use Rattle.wire_write.proofs.put_byte.Kinds as put-byte-kinds
use Rattle.wire_write.proofs.put_byte.Reads as put-byte-reads
use Rattle.wire_write.proofs.put_be16.Kinds as put-be16-kinds
use Rattle.wire_write.proofs.put_be16.Reads as put-be16-reads
use Rattle.wire_write.proofs.put_be32.Kinds as put-be32-kinds
use Rattle.wire_write.proofs.put_be32.Reads as put-be32-reads
use Rattle.wire_write.proofs.put_be64.Kinds as put-be64-kinds
use Rattle.wire_write.proofs.put_be64.Reads as put-be64-reads
use Rattle.wire_write.proofs.put_head.Kinds as put-head-kinds
use Rattle.wire_write.proofs.put_head.Reads as put-head-reads
use Rattle.wire_write.proofs.put_headed.Kinds as put-headed-kinds
use Rattle.wire_write.proofs.put_headed.Reads as put-headed-reads

pub wire_read-byte : OneAnswer 1 byte-kinds.ps byte-kinds.r result byte-Reads.Post
wire_read-byte κs arguments x y s t p q = p ∙ sym q

pub wire_read-be16 : OneAnswer 1 be16-kinds.ps be16-kinds.r result be16-reads.Post
wire_read-be16 κs arguments x y s t p q = p ∙ sym q

pub wire_read-be32 : OneAnswer 1 be32-kinds.ps be32-kinds.r result be32-reads.Post
wire_read-be32 κs arguments x y s t p q = p ∙ sym q

pub wire_read-be64 : OneAnswer 1 be64-kinds.ps be64-kinds.r result be64-reads.Post
wire_read-be64 κs arguments x y s t p q = p ∙ sym q

pub wire_read-front : OneAnswer 1 front-kinds.ps front-kinds.r part front_reads.Post
wire_read-front κs arguments x y s t p q = p ∙ sym q

pub wire_read-after : OneAnswer 1 after-kinds.ps after-kinds.r part after-reads.Post
wire_read-after κs arguments x y s t p q = p ∙ sym q

pub wire_read-all_zero : OneAnswer 1 all-zero-kinds.ps all-zero-kinds.r result all-zero-reads.Post
wire_read-all_zero κs arguments x y s t p q = p ∙ sym q

pub wire_read-equal : OneAnswer 2 equal-kinds.ps equal-kinds.r result equal-reads.Post
wire_read-equal κs arguments x y s t p q = p ∙ sym q

-- of a function over a trait: whatever type it is asked for
module _ (P : RattleType) (laws : Laws P) (ghosts : Ghosts P.Denot) (dict : Dict) where
  pub wire_read-skip : OneAnswer 2 (skip-kinds.ps P laws) (skip-kinds.r P laws) part (skip-reads.Post P laws ghosts dict)
  wire_read-skip κs arguments x y s t p q = p ∙ sym q

  pub wire_read-parts : OneAnswer 2 (parts-kinds.ps P laws) (parts-kinds.r P laws) result (parts-reads.Post P laws ghosts dict)
  wire_read-parts κs arguments x y s t p q = p ∙ sym q

  pub wire_read-numbered : OneAnswer 2 (numbered-kinds.ps P laws) (numbered-kinds.r P laws) part (numbered-reads.Post P laws ghosts dict)
  wire_read-numbered κs arguments x y s t p q = p ∙ sym q

pub wire_write-put_bytes : OneAnswer 2 put-bytes-kinds.ps put-bytes-kinds.r buffer put-bytes-reads.Post
wire_write-put_bytes κs arguments x y s t p q = p ∙ sym q

pub wire_write-put_byte : OneAnswer 1 put-byte-kinds.ps put-byte-kinds.r buffer put-byte-reads.Post
wire_write-put_byte κs arguments x y s t p q = p ∙ sym q

pub wire_write-put_be16 : OneAnswer 1 put-be16-kinds.ps put-be16-kinds.r buffer put-be16-reads.Post
wire_write-put_be16 κs arguments x y s t p q = p ∙ sym q

pub wire_write-put_be32 : OneAnswer 1 put-be32-kinds.ps put-be32-kinds.r buffer put-be32-reads.Post
wire_write-put_be32 κs arguments x y s t p q = p ∙ sym q

pub wire_write-put_be64 : OneAnswer 1 put-be64-kinds.ps put-be64-kinds.r buffer put-be64-reads.Post
wire_write-put_be64 κs arguments x y s t p q = p ∙ sym q

pub wire_write-put_head : OneAnswer 1 put-head-kinds.ps put-head-kinds.r buffer put-head-reads.Post
wire_write-put_head κs arguments x y s t p q = p ∙ sym q

pub wire_write-put_headed : OneAnswer 2 put-headed-kinds.ps put-headed-kinds.r result_and_buffer put-headed-reads.Post
wire_write-put_headed κs arguments x y s t p q = sym p ∙ q
