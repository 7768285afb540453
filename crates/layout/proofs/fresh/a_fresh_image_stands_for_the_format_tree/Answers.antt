-- Each part of the definition, from the files, the owners and the bitmaps.
use Rattle.std.proofs.Common.{arith, refl}
use Rattle.nfs_spec.specs.Model.Sound.{SoundGeometry}
use Rattle.nfs_spec.proofs.ModelLemmas.Formatted.{sound}
use Rattle.layout.specs.declared.geometry.Geometry.{Geometry}
use Rattle.layout.specs.Geometry.{IsLawful}
use Rattle.layout.specs.Homes.{homes_of}
use Rattle.layout.specs.Stands.{geometry_of}
use Rattle.layout.proofs.FreshHomes.{are_blocks, of_homes}
use Rattle.layout.proofs.FreshFiles.{marked, files, mapped}
use Rattle.layout.proofs.fresh.a_fresh_image_stands_for_the_format_tree.Goals as goal

lawful-sound : (g : Geometry) → IsLawful g.blocks g.inodes → SoundGeometry (geometry_of g)
lawful-sound g lawful =
    let most = lawful.0.1 in
    let has_space = lawful.1.3 in
    record {
      blocks = omega (arith, has_space);
      most_blocks = omega (arith, most, has_space);
      inodes = lawful.1.0;
      most_inodes = lawful.1.1;
      whole_blocks = lawful.1.2;
    }

pub returns : goal.returns
returns c = λ g moment image lawful now fresh.
    let homes = of_homes g moment image lawful fresh in
    record {
      bytes = λ number less. are_blocks g moment image lawful fresh number;
      parts = record {
        geometry = refl;
        sound = sound (geometry_of g) moment (lawful-sound g lawful) now;
        has = record {
          inodes = mapped g moment (homes_of g.blocks image) lawful now homes;
          files = files g moment (homes_of g.blocks image) lawful now homes;
        };
        marked = marked g moment (homes_of g.blocks image) lawful now homes;
      };
    }
