pub mod ImageUtil
pub mod SaddleClusters
pub mod ClusterCenter
