pub mod ImageUtil
pub mod SaddleClusters
