-- An end, its bytes up to the book, and itself again: what the definitions of specs/Ends.antt compute.
use mathlib.Core.Path.{◌≡◌, refl}
use mathlib.Core.List.{[], ◌∷◌}
use lib.ListN.{take, replicate}
use Rattle.wire_read.specs.Wire.{number_at}
use Rattle.wire_write.specs.Put.{bytes_of, paste}
use Rattle.policy_choice.specs.declared.Transforms.TheVariants.{Two}
use Rattle.quick_end.specs.declared.Role.TheVariants.{Responder}
use Rattle.quick_end.specs.declared.State.TheVariants.{Half}
use Rattle.quick_end.specs.declared.Spis.TheVariants.{Alone, Both}
use Rattle.quick_end.specs.declared.End.{End}
use Rattle.exports_end.specs.Ends.{state_number, state_of, role_number, role_of, transforms_values, spis_values, spis_bytes, agreed_bytes, progress_bytes, own_bytes, end_bytes, transforms_of, spis_in, agreed_of, progress_of, own_in, end_of}

abbrev an_end : End
an_end = record {
  own = record {
    role = Responder;
    icookie = 0x0102030405060708;
    rcookie = 0x1112131415161718;
    ah = 0x100;
    esp = 0xfffffffe;
    booksize = 8;
    book = replicate 82 7;
    noncesize = 256;
    nonce = replicate 256 9;
  };
  progress = record {
    state = Half;
    sends = 1;
    id = 0x21222324;
    sentsize = 0x3132;
    gotsize = 0x4142;
    agreed = record {
      set = record { 0 = 5 };
      transforms = Two (record { 0 = 1 }) (record { 0 = 3 });
      initiator = Both 0x51525354 0x61626364;
      responder = Alone 0x71727374;
    };
  };
}

its_bytes : take 60 (end_bytes an_end) ≡
    2 ∷ 1 ∷ 0x21 ∷ 0x22 ∷ 0x23 ∷ 0x24 ∷ 0x31 ∷ 0x32 ∷ 0x41 ∷ 0x42 ∷ 5 ∷ 2 ∷ 1 ∷ 3
    ∷ 2 ∷ 0x51 ∷ 0x52 ∷ 0x53 ∷ 0x54 ∷ 0x61 ∷ 0x62 ∷ 0x63 ∷ 0x64 ∷ 1 ∷ 0x71 ∷ 0x72 ∷ 0x73 ∷ 0x74 ∷ 0 ∷ 0 ∷ 0 ∷ 0
    ∷ 1 ∷ 8 ∷ 1 ∷ 0 ∷ 1 ∷ 2 ∷ 3 ∷ 4 ∷ 5 ∷ 6 ∷ 7 ∷ 8 ∷ 0x11 ∷ 0x12 ∷ 0x13 ∷ 0x14 ∷ 0x15 ∷ 0x16 ∷ 0x17 ∷ 0x18
    ∷ 0 ∷ 0 ∷ 1 ∷ 0 ∷ 0xff ∷ 0xff ∷ 0xff ∷ 0xfe ∷ []
unfolding end_bytes progress_bytes agreed_bytes spis_bytes spis_values transforms_values own_bytes role_number state_number bytes_of
its_bytes = refl

its_end : end_of (end_bytes an_end) ≡ an_end
unfolding end_of own_in progress_of agreed_of spis_in transforms_of state_of role_of number_at paste end_bytes progress_bytes agreed_bytes spis_bytes spis_values transforms_values own_bytes role_number state_number bytes_of
its_end = refl
